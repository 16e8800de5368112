-- What is said of a file whose lines were read.
use Rattle.std.proofs.Common.{◌≡◌, ℕ, ◌+◌, ◌<◌, ◌≤◌, inl, inr, ⊎_elim, Bool, true, false, List, [], ◌∷◌, length, get_or, Some, None, Result, Ok, Err, refl, sym, ap, subst, ◌∙◌, arith}
use Rattle.pf_base.specs.Clauses.Unless.{Unless}
use Rattle.pf_base.specs.Text.Logical.{logical_lines_of}
use Rattle.pf_base.specs.declared.text.logical.Logical.{Logical}
use Rattle.pf_base.specs.declared.text.logical.TextFault.TheVariants.{Continuation}
use Rattle.pf_base.specs.declared.refused.Cause.TheVariants.{C1, C11}
use Rattle.pf_base.specs.declared.refused.ConfFault.{ConfFault}
use Rattle.pf_base.specs.declared.refused.ConfFault.TheVariants as conf_fault
use Rattle.pf_asks.specs.Clauses.Causes.{counted_if}
use Rattle.pf_pcre.specs.Clauses.Reading.{CountsOnce, IsTableOf, as_conf_fault, is_large, is_of_size, names_size}
use Rattle.pf_pcre.specs.Clauses.Taking.{Leaves, finished, takes}
use Rattle.pf_pcre.specs.Tables.{or_refused, reason_text, refused, table_of, table_with}
use Rattle.pf_pcre.specs.declared.entry.Entry.{Entry}
use Rattle.pf_pcre.specs.declared.line.LineFault.{LineFault}
use Rattle.pf_pcre.specs.declared.line.LineFault.TheVariants as line_fault
use Rattle.pf_pcre.specs.declared.reason.Reason.{Reason}
use Rattle.pf_pcre.specs.declared.reason.Reason.TheVariants as reason
use Rattle.pf_pcre.specs.declared.table.Reading.{Reading}
use Rattle.pf_pcre.proofs.Cases.{either_way}
use Rattle.pf_pcre.proofs.FaultLemmas.{continued, named_by_size, table_of_lines}
use Rattle.pf_pcre.proofs.TakingLaws.{Led, all_taken, refused_at, too_large_at}

abbrev Answer : Type 0
Answer = Result (List Entry) ConfFault

abbrev pub IsTable : List ℕ → List Logical → Answer → Type 0
IsTable file lines answer = IsTableOf (λ large. or_refused file (table_with large lines)) answer

-- a refusal names a pattern's size where that is its reason
pub size_named : (file : List ℕ) (line : ℕ) (why : Reason) (fault : ConfFault) → fault ≡ conf_fault.Refused (refused file line C11 (reason_text why))
    → names_size {A = List Entry} (Err fault) ≡ is_of_size why
size_named file line why fault is = ap (λ f. names_size {A = List Entry} (Err f)) is ∙ named_by_size why

-- what is known of a line that is refused, by its reason
pub leaves_at : (r new : Reading) (line : ℕ) (text : List ℕ) (fault : LineFault) (why : Reason) → fault ≡ line_fault.Refused why
    → Leaves {A = ℕ} (takes (is_large {A = ℕ} (Err fault)) r line text) new (Err fault) → takes (is_of_size why) r line text ≡ Err why
leaves_at r new line text fault why same leaves = subst (λ f. Leaves {A = ℕ} (takes (is_large {A = ℕ} (Err f)) r line text) new (Err f)) same leaves

pub counts_at : (now before : ℕ) (fault : LineFault) (why : Reason) → fault ≡ line_fault.Refused why
    → now ≡ counted_if (is_large {A = ℕ} (Err fault)) before → now ≡ counted_if (is_of_size why) before
counts_at now before fault why same counts = subst (λ f. now ≡ counted_if (is_large {A = ℕ} (Err f)) before) same counts

-- a line that is refused
pub refused_table : (file : List ℕ) (lines : List Logical) (r : Reading) (i : ℕ) (logical : Logical) (why : Reason) → i < length lines → logical ≡ get_or lines i logical
    → Led lines i r → takes (is_of_size why) r logical.line logical.text ≡ Err why → (fault : ConfFault)
    → fault ≡ conf_fault.Refused (refused file logical.line C11 (reason_text why)) → IsTable file lines (Err fault)
refused_table file lines r i logical why within at led is fault named =
    either_way (is_of_size why)
    (λ large. (Some (i + 0), ap Err named ∙ sym (ap (λ t. as_conf_fault (or_refused file t)) (too_large_at lines r i logical why within at led (rw large at is))), sym (size_named file logical.line why fault named ∙ large)))
    (λ small. (None, ap Err named ∙ sym (ap (λ t. as_conf_fault (or_refused file t)) (refused_at lines r i logical why within at led (rw small at is))), sym (size_named file logical.line why fault named ∙ small)))

pub refused_counts : (file : List ℕ) (line : ℕ) (why : Reason) (fault : ConfFault) (old before now : ℕ) → fault ≡ conf_fault.Refused (refused file line C11 (reason_text why))
    → now ≡ counted_if (is_of_size why) before → before ≡ old → now ≡ counted_if (names_size {A = List Entry} (Err fault)) old
refused_counts file line why fault old before now named counted same =
    counted ∙ ap (counted_if (is_of_size why)) same ∙ ap (λ b. counted_if b old) (sym (size_named file line why fault named))

pub later : (b : Bool) (old before now : ℕ) → now ≡ counted_if b before → before ≡ old → old ≤ now
later b old before now counted same = omega (arith, counted, same)

pub none_counted : (now before : ℕ) → now ≡ counted_if false before → now ≡ before
none_counted now before is = omega (arith, is)

-- the count of patterns after lines, whatever became of their refusal
abbrev pub Once : List ℕ → List Logical → ℕ → ℕ → Type 0
Once file lines old new = CountsOnce (λ large. or_refused file (table_with large lines)) old new

pub refused_once : (file : List ℕ) (lines : List Logical) (r : Reading) (i : ℕ) (logical : Logical) (why : Reason) (old before now : ℕ)
    → i < length lines → logical ≡ get_or lines i logical → Led lines i r → takes (is_of_size why) r logical.line logical.text ≡ Err why
    → now ≡ counted_if (is_of_size why) before → before ≡ old → Once file lines old now
refused_once file lines r i logical why old before now within at led is counted same =
    either_way (is_of_size why)
    (λ large. inr (
      i + 0,
      ap (λ t. names_size (as_conf_fault (or_refused file t))) (too_large_at lines r i logical why within at led (rw large at is)) ∙ named_by_size why ∙ large,
      counted ∙ ap (λ b. counted_if b before) large ∙ ap (counted_if true) same,
    ))
    (λ small. inl (none_counted now before (counted ∙ ap (λ b. counted_if b before) small) ∙ same))

-- after the last line
not_by_size : (file : List ℕ) (r : Reading) (pending : List ℕ) (fault : ConfFault) → Err fault ≡ as_conf_fault (or_refused file (finished r pending))
    → names_size {A = List Entry} (Err fault) ≡ false
not_by_size file r [] fault is = cc
not_by_size file r (number ∷ pending) fault is = ap (λ (x : Answer). names_size x) is ∙ named_by_size reason.IfWithoutEndif

pub finished_table : (file : List ℕ) (lines : List Logical) (r : Reading) (i : ℕ) → length lines ≤ i → Led lines i r → (answer : Answer)
    → Unless answer conf_fault.NoMemory (λ x. x ≡ as_conf_fault (or_refused file (finished r r.pending))) → Unless answer conf_fault.NoMemory (IsTable file lines)
finished_table file lines r i past led (Ok table) is = (None, is ∙ sym (ap (λ t. as_conf_fault (or_refused file t)) (all_taken lines r i past led)), refl)
finished_table file lines r i past led (Err fault) is = λ memory.
    (None, is memory ∙ sym (ap (λ t. as_conf_fault (or_refused file t)) (all_taken lines r i past led)), sym (not_by_size file r r.pending fault (is memory)))

pub finished_counts : (file : List ℕ) (r : Reading) (old now : ℕ) → now ≡ old → (answer : Answer)
    → Unless answer conf_fault.NoMemory (λ x. x ≡ as_conf_fault (or_refused file (finished r r.pending))) → Unless answer conf_fault.NoMemory (λ x. now ≡ counted_if (names_size x) old)
finished_counts file r old now same (Ok table) is = omega (arith, same)
finished_counts file r old now same (Err fault) is = λ memory. rw (not_by_size file r r.pending fault (is memory)) (omega (arith, same))

-- a text whose lines are these
pub table_in_text : (file text : List ℕ) (lines : List Logical) → Ok lines ≡ logical_lines_of text → (answer : Answer) → Unless answer conf_fault.NoMemory (IsTable file lines)
    → Unless answer conf_fault.NoMemory (IsTableOf (λ large. table_of large file text))
table_in_text file text lines is (Ok table) of = (of.0, of.1 ∙ ap as_conf_fault (sym (table_of_lines of.0 file text lines is)), of.2)
table_in_text file text lines is (Err fault) of = λ memory.
    let t = of memory in (t.0, t.1 ∙ ap as_conf_fault (sym (table_of_lines t.0 file text lines is)), t.2)

-- a text whose first line continues nothing
pub continued_table : (file text : List ℕ) (line : ℕ) (fault : ConfFault) → fault ≡ conf_fault.Refused (refused file line C1 []) → Err (Continuation line) ≡ logical_lines_of text
    → IsTableOf (λ large. table_of large file text) (Err fault)
continued_table file text line fault named is =
    (None, ap Err named ∙ sym (ap as_conf_fault (continued None file text line is)), sym (ap (λ f. names_size {A = List Entry} (Err f)) named))

-- the count after a text whose lines are these
pub once_in_text : (file text : List ℕ) (lines : List Logical) → Ok lines ≡ logical_lines_of text → (old new : ℕ) → Once file lines old new
    → CountsOnce (λ large. table_of large file text) old new
once_in_text file text lines is old new once =
    ⊎_elim inl
    (λ more. inr (more.0, ap (λ t. names_size (as_conf_fault t)) (table_of_lines (Some more.0) file text lines is) ∙ more.1, more.2))
    once
