-- Lines that are taken one after the other make the table.
use Rattle.std.proofs.Common.{◌≡◌, ℕ, zero, suc, ◌+◌, ◌-◌, ◌<◌, ◌≤◌, true, List, [], ◌∷◌, ◌++◌, length, get_or, take, drop, Option, Some, None, Result, Ok, Err, refl, sym, ap, ◌∙◌, append-nil, append_assoc, length-append, length-take-le, arith}
use Rattle.std.specs.Prelude.{if◌then◌else◌}
use Rattle.std.proofs.lemmas.Bool.{ne_eqb}
use Rattle.std.proofs.lemmas.List.{drop_all, drop_more}
use Rattle.pf_base.specs.Results.{◌>>=◌}
use Rattle.pf_base.specs.declared.text.logical.Logical.{Logical}
use Rattle.pf_cidr.specs.Clauses.Taking.{closed, finished, taken, takes, with_condition, with_rule}
use Rattle.pf_cidr.specs.Tables.{Line, Table, at_line, closes, entries_of, entry_of, first_unclosed, lines_of, open_behind, results_of, table_with, unless_unclosed, value_of}
use Rattle.pf_cidr.specs.declared.entry.Entry.{Entry}
use Rattle.pf_cidr.specs.declared.entry.Entry.TheVariants.{Endif, If, Rule}
use Rattle.pf_cidr.specs.declared.entry.Pattern.{Pattern}
use Rattle.pf_cidr.specs.declared.reason.Reason.{Reason}
use Rattle.pf_cidr.specs.declared.reason.Reason.TheVariants as reason
use Rattle.pf_cidr.specs.declared.table.Reading.{Reading}
use Rattle.pf_cidr.proofs.Cases.{either_list, either_way}

-- what comes of lines after what was read
abbrev pub goes_on : Reading → List Logical → Result Table (ℕ × Reason)
goes_on r [] = finished r r.pending
goes_on r (logical ∷ lines) = at_line logical.line (takes r logical.line logical.text) >>= λ next. goes_on next lines

-- the first condition that is never closed, of those that are open and those of lines after
abbrev first_open : List ℕ → List Line → Option ℕ
first_open [] lines = first_unclosed lines
first_open (number ∷ pending) lines = if closes (length pending) (entries_of lines) then first_unclosed lines else Some number

abbrev ends : Reading → List Line → Option ℕ → Result Table (ℕ × Reason)
ends r lines None = Ok (record { entries = r.entries ++ entries_of lines; results = r.results ++ results_of lines })
ends r lines (Some number) = Err (number, reason.IfWithoutEndif)

abbrev behind : Reading → List Line → Result Table (ℕ × Reason)
behind r lines = ends r lines (first_open r.pending lines)

-- what closes a condition in which another one is open closes that one too
closes_inner : (n : ℕ) (entries : List Entry) → closes (suc n) entries ≡ true → closes n entries ≡ true
closes_inner n [] h = cc
closes_inner n (Rule pattern ∷ entries) h = closes_inner n entries h
closes_inner n (If pattern ∷ entries) h = closes_inner (suc n) entries h
closes_inner zero (Endif ∷ entries) h = refl
closes_inner (suc n) (Endif ∷ entries) h = closes_inner n entries h

closes_first : (n : ℕ) (entries : List Entry) → closes n entries ≡ true → closes zero entries ≡ true
closes_first zero entries h = h
closes_first (suc n) entries h = closes_first n entries (closes_inner n entries h)

-- one condition more that is open
opened : (number : ℕ) (pattern : Pattern) (value : List ℕ) (pending : List ℕ) (lines : List Line)
    → first_open (pending ++ (number ∷ [])) lines ≡ first_open pending (record { number = number; entry = If pattern; value = value } ∷ lines)
opened number pattern value [] lines = either_way (closes zero (entries_of lines)) (λ h. rw h) (λ h. rw h)
opened number pattern value (first ∷ pending) lines =
    let len : length (pending ++ (number ∷ [])) ≡ suc (length pending) = omega (arith, length-append pending (number ∷ [])) in
    rw len
    (either_way (closes (suc (length pending)) (entries_of lines))
    (λ h. rw (h, closes_first (suc (length pending)) (entries_of lines) h))
    (λ h. rw h))

-- one less
less : (number : ℕ) (value : List ℕ) (first : ℕ) (pending : List ℕ) (lines : List Line)
    → first_open (take (length pending) (first ∷ pending)) lines ≡ first_open (first ∷ pending) (record { number = number; entry = Endif; value = value } ∷ lines)
less number value first [] lines = refl
less number value first (second ∷ pending) lines = rw (length-take-le (length pending) (second ∷ pending) (omega arith))

ends_more : (r next : Reading) (line : Line) (lines : List Line) (pending : Option ℕ) → next.entries ++ entries_of lines ≡ r.entries ++ entries_of (line ∷ lines)
    → next.results ++ results_of lines ≡ r.results ++ results_of (line ∷ lines) → ends next lines pending ≡ ends r (line ∷ lines) pending
ends_more r next line lines None entries results = λ i. Ok (record { entries = entries i; results = results i })
ends_more r next line lines (Some number) entries results = refl

rule_behind : (r : Reading) (number : ℕ) (pattern : Pattern) (value : List ℕ) (lines : List Line)
    → behind (with_rule r pattern value) lines ≡ behind r (record { number = number; entry = Rule pattern; value = value } ∷ lines)
rule_behind r number pattern value lines =
    ap (ends (with_rule r pattern value) lines) (same r.pending)
    ∙ ends_more r (with_rule r pattern value) (record { number = number; entry = Rule pattern; value = value }) lines _ (append_assoc r.entries (Rule pattern ∷ []) (entries_of lines))
    (append_assoc r.results (value ∷ []) (results_of lines)) where
      same : (pending : List ℕ) → first_open pending lines ≡ first_open pending (record { number = number; entry = Rule pattern; value = value } ∷ lines)
      same [] = refl
      same (first ∷ pending) = refl

condition_behind : (r : Reading) (number : ℕ) (pattern : Pattern) (value : List ℕ) (lines : List Line)
    → behind (with_condition r number pattern) lines ≡ behind r (record { number = number; entry = If pattern; value = value } ∷ lines)
condition_behind r number pattern value lines =
    ap (ends (with_condition r number pattern) lines) (opened number pattern value r.pending lines)
    ∙ ends_more r (with_condition r number pattern) (record { number = number; entry = If pattern; value = value }) lines _ (append_assoc r.entries (If pattern ∷ []) (entries_of lines)) refl

abbrev without_last : Reading → List ℕ → Reading
without_last r pending = record { entries = r.entries ++ (Endif ∷ []); results = r.results; pending = pending }

end_behind : (r : Reading) (number : ℕ) (value : List ℕ) (first : ℕ) (pending : List ℕ) (lines : List Line) → r.pending ≡ first ∷ pending
    → behind (without_last r (take (length pending) (first ∷ pending))) lines ≡ behind r (record { number = number; entry = Endif; value = value } ∷ lines)
end_behind r number value first pending lines is =
    ap (ends (without_last r (take (length pending) (first ∷ pending))) lines) (less number value first pending lines)
    ∙ ends_more r (without_last r (take (length pending) (first ∷ pending))) (record { number = number; entry = Endif; value = value }) lines _ (append_assoc r.entries (Endif ∷ []) (entries_of lines)) refl
    ∙ ap (λ o. ends r (record { number = number; entry = Endif; value = value } ∷ lines) (first_open o (record { number = number; entry = Endif; value = value } ∷ lines))) (sym is)

closed_is : (r : Reading) (first : ℕ) (pending : List ℕ) → r.pending ≡ first ∷ pending
    → closed r ≡ Ok (without_last r (take (length pending) (first ∷ pending)))
closed_is r first pending is =
    let one : suc (length pending) - 1 ≡ length pending = omega arith in
    rw (is, ne_eqb (length (first ∷ pending)) 0 (omega arith), one)

-- a line before others
with_line : (r next : Reading) (line : Line) (lines : Result (List Line) (ℕ × Reason)) → ((rest : List Line) → behind next rest ≡ behind r (line ∷ rest))
    → (lines >>= behind next) ≡ ((lines >>= λ rest. Ok (line ∷ rest)) >>= behind r)
with_line r next line (Ok rest) same = same rest
with_line r next line (Err why) same = refl

abbrev rest_of : ℕ → List ℕ → List Logical → ℕ → Entry → Result (List Line) (ℕ × Reason)
rest_of number value lines pending entry = do
  more ← at_line number (open_behind pending entry)
  rest ← lines_of more lines
  Ok (record { number = number; entry = entry; value = value } ∷ rest)

step : (r : Reading) (number : ℕ) (value : List ℕ) (lines : List Logical) (entry : Result Entry Reason)
    → ((next : Reading) → goes_on next lines ≡ (lines_of (length next.pending) lines >>= behind next))
    → (at_line number (entry >>= taken r number value) >>= λ next. goes_on next lines)
    ≡ ((at_line number entry >>= rest_of number value lines (length r.pending)) >>= behind r)
step r number value lines (Err why) goes = refl
step r number value lines (Ok (Rule pattern)) goes =
    goes (with_rule r pattern value)
    ∙ with_line r (with_rule r pattern value) (record { number = number; entry = Rule pattern; value = value }) (lines_of (length r.pending) lines) (rule_behind r number pattern value)
step r number value lines (Ok (If pattern)) goes =
    let len : length (r.pending ++ (number ∷ [])) ≡ suc (length r.pending) = omega (arith, length-append r.pending (number ∷ [])) in
    goes (with_condition r number pattern)
    ∙ ap (λ n. lines_of n lines >>= behind (with_condition r number pattern)) len
    ∙ with_line r (with_condition r number pattern) (record { number = number; entry = If pattern; value = value }) (lines_of (suc (length r.pending)) lines) (condition_behind r number pattern value)
step r number value lines (Ok Endif) goes =
    either_list r.pending
    (λ is. rw is)
    (λ first pending is.
    let len = length-take-le (length pending) (first ∷ pending) (omega arith) in
    let ended = goes (without_last r (take (length pending) (first ∷ pending))) in
    rw (closed_is r first pending is, ap length is)
    (ended ∙ ap (λ n. lines_of n lines >>= behind (without_last r (take (length pending) (first ∷ pending)))) len
    ∙ with_line r (without_last r (take (length pending) (first ∷ pending))) (record { number = number; entry = Endif; value = value })
    (lines_of (length pending) lines) (λ rest. end_behind r number value first pending rest is)))

at_end : (r : Reading) (pending : List ℕ) → finished r pending ≡ ends r [] (first_open pending [])
at_end r [] = rw (append-nil r.entries, append-nil r.results)
at_end r (first ∷ pending) = refl

pub goes : (r : Reading) (lines : List Logical) → goes_on r lines ≡ (lines_of (length r.pending) lines >>= behind r)
goes r [] = at_end r r.pending
goes r (logical ∷ lines) = step r logical.line (value_of logical.text) lines (entry_of logical.text) (λ next. goes next lines)

abbrev pub start : Reading
start = record { entries = []; results = []; pending = [] }

from_start : (lines : List Line) (pending : Option ℕ) → ends start lines pending ≡ unless_unclosed lines pending
from_start lines None = refl
from_start lines (Some number) = refl

all_behind : (lines : Result (List Line) (ℕ × Reason)) → (lines >>= behind start) ≡ (lines >>= λ all. unless_unclosed all (first_unclosed all))
all_behind (Ok lines) = from_start lines (first_unclosed lines)
all_behind (Err why) = refl

pub table_is : (lines : List Logical) → goes_on start lines ≡ table_with lines
table_is lines = goes start lines ∙ all_behind (lines_of zero lines)

-- after a line that is taken the others go on
pub taken_at : (lines : List Logical) (r next : Reading) (i : ℕ) (logical : Logical) → i < length lines → logical ≡ get_or lines i logical
    → takes r logical.line logical.text ≡ Ok next → goes_on r (drop i lines) ≡ goes_on next (drop (i + 1) lines)
taken_at lines r next i logical within at is =
    let first : drop i lines ≡ logical ∷ drop (i + 1) lines = drop_more lines i logical within ∙ ap (λ l. l ∷ drop (i + 1) lines) (sym at) in
    rw (first, is)

-- a line that is not taken is the one that is refused
pub refused_at : (lines : List Logical) (r : Reading) (i : ℕ) (logical : Logical) (why : Reason) → i < length lines → logical ≡ get_or lines i logical
    → goes_on start lines ≡ goes_on r (drop i lines) → takes r logical.line logical.text ≡ Err why → table_with lines ≡ Err (logical.line, why)
refused_at lines r i logical why within at led is =
    let first : drop i lines ≡ logical ∷ drop (i + 1) lines = drop_more lines i logical within ∙ ap (λ l. l ∷ drop (i + 1) lines) (sym at) in
    sym (table_is lines) ∙ led ∙ rw (first, is)

-- after the last line the table is what was read
pub all_taken : (lines : List Logical) (r : Reading) (i : ℕ) → length lines ≤ i → goes_on start lines ≡ goes_on r (drop i lines) → table_with lines ≡ finished r r.pending
all_taken lines r i past led = sym (table_is lines) ∙ led ∙ rw (drop_all i lines past)
