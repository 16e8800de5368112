-- What is added to a cdb line by line, and what is built of a text whose keys are distinct.
use Rattle.std.proofs.Common.{◌≡◌, ◌≤◌, ◌++◌, ℕ, Bool, true, false, List, [], ◌∷◌, Option, Some, Result, Ok, Err, length, map, drop, nat_lt, refl, sym, ap, ◌∙◌, append_assoc, append-nil, arith}
use Rattle.pf_base.specs.Text.Logical.{grouped, physical_lines}
use Rattle.pf_base.specs.Results.{◌>>=◌}
use Rattle.pf_base.specs.Clauses.Faults.{as_fault}
use Rattle.pf_base.specs.declared.text.logical.Logical.{Logical}
use Rattle.pf_base.specs.declared.pair.Pair.{Pair}
use Rattle.pf_base.specs.declared.refused.ConfFault.{ConfFault}
use Rattle.pf_base.specs.declared.refused.ConfFault.TheVariants as conf_fault
use Rattle.pf_base.specs.declared.refused.Refused.{Refused}
use Rattle.pf_cdb.specs.Written.{HasDistinctKeys, written, written_file}
use Rattle.pf_table.proofs.DistinctLaws.{distinct_read, refused_read}
use Rattle.pf_table.proofs.ReadingLemmas.{read_first, with_others}
use Rattle.pf_table.specs.Clauses.Lines.{entry_if, first_entry}
use Rattle.pf_table.specs.Text.{Entry, lines_in, lines_of, lines_read}
use Rattle.pf_table.specs.declared.pairs.Repeats.{Repeats}
use Rattle.pf_tools.specs.Clauses.Streaming.{line_pairs}
use Rattle.pf_tools.specs.Map.Built.{read_built, text_built, text_name, warnings_of}

-- the pairs so far and those of more lines
abbrev pub added_all : List Pair → Result (List Entry) Refused → Result (List Pair) Refused
added_all done answer = answer >>= (λ more. Ok (done ++ map (λ entry. entry.pair) more))

pub fresh_pairs : (file : List ℕ) (folds : Bool) (text : List ℕ) (left : List Logical) → lines_in file (grouped (physical_lines text)) ≡ Ok left
    → line_pairs file folds text ≡ added_all [] (lines_read file folds left)
fresh_pairs file folds text left is = ap (λ answer. answer >>= lines_read file folds >>= (λ entries. Ok (map (λ entry. entry.pair) entries))) is

pub added_more : (file : List ℕ) (folds : Bool) (done : List Pair) (left : List Logical) (entry : Entry) → first_entry file folds left ≡ Ok (entry_if true entry)
    → added_all done (lines_read file folds left) ≡ added_all (done ++ entry.pair ∷ []) (lines_read file folds (drop 1 left))
added_more file folds done left entry first = rw (read_first file folds left, first) (by (lines_read file folds (drop 1 left)))
  where
    by : (others : Result (List Entry) Refused) → added_all done (with_others (Some entry) others) ≡ added_all (done ++ entry.pair ∷ []) others
    by (Ok more) = ap Ok (sym (append_assoc done (entry.pair ∷ []) (map (λ entry. entry.pair) more)))
    by (Err refusal) = refl

pub added_end : (file : List ℕ) (folds : Bool) (done : List Pair) (left : List Logical) (entry : Entry) → first_entry file folds left ≡ Ok (entry_if false entry)
    → added_all done (lines_read file folds left) ≡ Ok done
added_end file folds done left entry first = rw (read_first file folds left, first) (ap Ok (append-nil done))

pub added_fault : (file : List ℕ) (folds : Bool) (done : List Pair) (left : List Logical) (fault : ConfFault) → Err fault ≡ as_fault (first_entry file folds left)
    → Err fault ≡ as_fault (added_all done (lines_read file folds left))
added_fault file folds done left fault is = rw (read_first file folds left) (by (first_entry file folds left) is)
  where
    by : (answer : Result (Option Entry) Refused) → Err fault ≡ as_fault answer
        → Err fault ≡ as_fault (added_all done (answer >>= (λ first. with_others first (lines_read file folds (drop 1 left)))))
    by (Ok first) is = cc
    by (Err refusal) is = cc

-- a file that is not too large
within : (pairs : List Pair) → length (written pairs) ≤ 67108864 → written_file pairs ≡ Ok (written pairs)
within pairs fits = let e : nat_lt 67108864 (length (written pairs)) ≡ false = grind arith in rw e refl

-- no warning of none
none_warned : (file : List ℕ) (warned : Bool) → warnings_of file warned [] ≡ []
none_warned file true = refl
none_warned file false = refl

pub distinct_built : (table : List ℕ) (folds : Bool) (repeats : Repeats) (warned : Bool) (text : List ℕ) (pairs : List Pair)
    → line_pairs (text_name table) folds text ≡ Ok pairs → HasDistinctKeys pairs → length (written pairs) ≤ 67108864
    → text_built table folds repeats warned text ≡ Ok (record { bytes = written pairs; warnings = [] })
distinct_built table folds repeats warned text pairs is distinct fits = by (lines_of (text_name table) folds text) refl is
  where
    by : (answer : Result (List Entry) Refused) → lines_of (text_name table) folds text ≡ answer → (answer >>= (λ entries. Ok (map (λ entry. entry.pair) entries))) ≡ Ok pairs
        → text_built table folds repeats warned text ≡ Ok (record { bytes = written pairs; warnings = [] })
    by (Ok entries) read is =
        let same : map (λ entry. entry.pair) entries ≡ pairs = cc in
        ap (λ answer. answer >>= read_built table warned) (distinct_read (text_name table) folds repeats text entries read (rw same distinct))
        ∙ rw (same, within pairs fits, none_warned (text_name table) warned) refl
    by (Err refusal) read is = cc

pub refused_built : (table : List ℕ) (folds : Bool) (repeats : Repeats) (warned : Bool) (text : List ℕ) (fault : ConfFault)
    → Err fault ≡ as_fault (line_pairs (text_name table) folds text) → Err fault ≡ as_fault (text_built table folds repeats warned text)
refused_built table folds repeats warned text fault is = by (lines_of (text_name table) folds text) refl is
  where
    by : (answer : Result (List Entry) Refused) → lines_of (text_name table) folds text ≡ answer
        → Err fault ≡ as_fault (answer >>= (λ entries. Ok (map (λ entry. entry.pair) entries))) → Err fault ≡ as_fault (text_built table folds repeats warned text)
    by (Ok entries) read is = cc
    by (Err refusal) read is =
        let same : fault ≡ conf_fault.Refused refusal = cc in
        rw (refused_read (text_name table) folds repeats text refusal read) (ap Err same)
