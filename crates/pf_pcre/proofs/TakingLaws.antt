-- Lines that are taken one after the other make the table.
use Rattle.std.proofs.Common.{◌≡◌, ℕ, zero, suc, ◌+◌, ◌-◌, ◌<◌, ◌≤◌, true, false, List, [], ◌∷◌, ◌++◌, length, get_or, take, drop, Option, Some, None, Result, Ok, Err, refl, sym, ap, ◌∙◌, append-nil, append_assoc, length-append, length-take-le, arith}
use Rattle.std.specs.Prelude.{if◌then◌else◌, nat_lt, option_map}
use Rattle.std.proofs.lemmas.Bool.{ne_eqb}
use Rattle.std.proofs.lemmas.List.{drop_all, drop_more}
use Rattle.pf_base.specs.Results.{◌>>=◌}
use Rattle.pf_base.specs.declared.text.logical.Logical.{Logical}
use Rattle.pf_pcre.specs.Clauses.Taking.{closed, finished, start, taken, takes, with_condition, with_rule}
use Rattle.pf_pcre.specs.Tables.{Count, Line, at_line, closes, counted_behind, entries_of, entry_of, first_unclosed, is_here, lines_of, most_rules, no_lines, one_less, table_with, unless_unclosed}
use Rattle.pf_pcre.specs.declared.entry.Condition.{Condition}
use Rattle.pf_pcre.specs.declared.entry.Entry.{Entry}
use Rattle.pf_pcre.specs.declared.entry.Entry.TheVariants.{Endif, If, Rule}
use Rattle.pf_pcre.specs.declared.entry.Rule as rules
use Rattle.pf_pcre.specs.declared.reason.Reason.{Reason}
use Rattle.pf_pcre.specs.declared.reason.Reason.TheVariants as reason
use Rattle.pf_pcre.specs.declared.table.Reading.{Reading}
use Rattle.pf_pcre.proofs.Cases.{either_list, either_way}

-- what comes of lines after what was read
abbrev pub goes_on : Option ℕ → Reading → List Logical → Result (List Entry) (ℕ × Reason)
goes_on large r [] = finished r r.pending
goes_on large r (logical ∷ lines) = at_line logical.line (takes (is_here large) r logical.line logical.text) >>= λ next. goes_on (one_less large) next lines

-- the first condition that is never closed, of those that are open and those of lines after
abbrev first_open : List ℕ → List Line → Option ℕ
first_open [] lines = first_unclosed lines
first_open (number ∷ pending) lines = if closes (length pending) (entries_of lines) then first_unclosed lines else Some number

abbrev ends : Reading → List Line → Option ℕ → Result (List Entry) (ℕ × Reason)
ends r lines None = Ok (r.entries ++ entries_of lines)
ends r lines (Some number) = Err (number, reason.IfWithoutEndif)

abbrev behind : Reading → List Line → Result (List Entry) (ℕ × Reason)
behind r lines = ends r lines (first_open r.pending lines)

abbrev count_of : Reading → Count
count_of r = record { rules = r.rules; pending = length r.pending }

-- what closes a condition in which another one is open closes that one too
closes_inner : (n : ℕ) (entries : List Entry) → closes (suc n) entries ≡ true → closes n entries ≡ true
closes_inner n [] h = cc
closes_inner n (Rule rule ∷ entries) h = closes_inner n entries h
closes_inner n (If condition ∷ entries) h = closes_inner (suc n) entries h
closes_inner zero (Endif ∷ entries) h = refl
closes_inner (suc n) (Endif ∷ entries) h = closes_inner n entries h

closes_first : (n : ℕ) (entries : List Entry) → closes n entries ≡ true → closes zero entries ≡ true
closes_first zero entries h = h
closes_first (suc n) entries h = closes_first n entries (closes_inner n entries h)

abbrev line_with : ℕ → Entry → Line
line_with number entry = record { number = number; entry = entry }

-- one condition more that is open
opened : (number : ℕ) (condition : Condition) (pending : List ℕ) (lines : List Line)
    → first_open (pending ++ (number ∷ [])) lines ≡ first_open pending (line_with number (If condition) ∷ lines)
opened number condition [] lines = either_way (closes zero (entries_of lines)) (λ h. rw h) (λ h. rw h)
opened number condition (first ∷ pending) lines =
    let len : length (pending ++ (number ∷ [])) ≡ suc (length pending) = omega (arith, length-append pending (number ∷ [])) in
    rw len
    (either_way (closes (suc (length pending)) (entries_of lines))
    (λ h. rw (h, closes_first (suc (length pending)) (entries_of lines) h))
    (λ h. rw h))

-- one less
less : (number first : ℕ) (pending : List ℕ) (lines : List Line)
    → first_open (take (length pending) (first ∷ pending)) lines ≡ first_open (first ∷ pending) (line_with number Endif ∷ lines)
less number first [] lines = refl
less number first (second ∷ pending) lines = rw (length-take-le (length pending) (second ∷ pending) (omega arith))

ends_more : (r next : Reading) (line : Line) (lines : List Line) (pending : Option ℕ) → next.entries ++ entries_of lines ≡ r.entries ++ entries_of (line ∷ lines)
    → ends next lines pending ≡ ends r (line ∷ lines) pending
ends_more r next line lines None entries = ap Ok entries
ends_more r next line lines (Some number) entries = refl

rule_behind : (r : Reading) (number : ℕ) (rule : rules.Rule) (lines : List Line) → behind (with_rule r rule) lines ≡ behind r (line_with number (Rule rule) ∷ lines)
rule_behind r number rule lines =
    ap (ends (with_rule r rule) lines) (same r.pending)
    ∙ ends_more r (with_rule r rule) (line_with number (Rule rule)) lines _ (append_assoc r.entries (Rule rule ∷ []) (entries_of lines)) where
      same : (pending : List ℕ) → first_open pending lines ≡ first_open pending (line_with number (Rule rule) ∷ lines)
      same [] = refl
      same (first ∷ pending) = refl

condition_behind : (r : Reading) (number : ℕ) (condition : Condition) (lines : List Line)
    → behind (with_condition r number condition) lines ≡ behind r (line_with number (If condition) ∷ lines)
condition_behind r number condition lines =
    ap (ends (with_condition r number condition) lines) (opened number condition r.pending lines)
    ∙ ends_more r (with_condition r number condition) (line_with number (If condition)) lines _ (append_assoc r.entries (If condition ∷ []) (entries_of lines))

abbrev without_last : Reading → List ℕ → Reading
without_last r pending = record { entries = r.entries ++ (Endif ∷ []); rules = r.rules; pending = pending }

end_behind : (r : Reading) (number first : ℕ) (pending : List ℕ) (lines : List Line) → r.pending ≡ first ∷ pending
    → behind (without_last r (take (length pending) (first ∷ pending))) lines ≡ behind r (line_with number Endif ∷ lines)
end_behind r number first pending lines is =
    ap (ends (without_last r (take (length pending) (first ∷ pending))) lines) (less number first pending lines)
    ∙ ends_more r (without_last r (take (length pending) (first ∷ pending))) (line_with number Endif) lines _ (append_assoc r.entries (Endif ∷ []) (entries_of lines))
    ∙ ap (λ o. ends r (line_with number Endif ∷ lines) (first_open o (line_with number Endif ∷ lines))) (sym is)

closed_is : (r : Reading) (first : ℕ) (pending : List ℕ) → r.pending ≡ first ∷ pending
    → closed r ≡ Ok (without_last r (take (length pending) (first ∷ pending)))
closed_is r first pending is =
    let one : suc (length pending) - 1 ≡ length pending = omega arith in
    rw (is, ne_eqb (length (first ∷ pending)) 0 (omega arith), one)

-- a line before others
with_line : (r next : Reading) (line : Line) (lines : Result (List Line) (ℕ × Reason)) → ((rest : List Line) → behind next rest ≡ behind r (line ∷ rest))
    → (lines >>= behind next) ≡ ((lines >>= λ rest. Ok (line ∷ rest)) >>= behind r)
with_line r next line (Ok rest) same = same rest
with_line r next line (Err why) same = refl

abbrev rest_of : Option ℕ → ℕ → List Logical → Count → Entry → Result (List Line) (ℕ × Reason)
rest_of large number lines count entry = do
  more ← at_line number (counted_behind count entry)
  rest ← lines_of large more lines
  Ok (line_with number entry ∷ rest)

step : (large : Option ℕ) (r : Reading) (number : ℕ) (lines : List Logical) (entry : Result Entry Reason)
    → ((next : Reading) → goes_on large next lines ≡ (lines_of large (count_of next) lines >>= behind next))
    → (at_line number (entry >>= taken r number) >>= λ next. goes_on large next lines)
    ≡ ((at_line number entry >>= rest_of large number lines (count_of r)) >>= behind r)
step large r number lines (Err why) goes = refl
step large r number lines (Ok (Rule rule)) goes =
    either_way (nat_lt r.rules most_rules)
    (λ h. rw h
    (goes (with_rule r rule)
    ∙ with_line r (with_rule r rule) (line_with number (Rule rule)) (lines_of large (count_of (with_rule r rule)) lines) (rule_behind r number rule)))
    (λ h. rw h)
step large r number lines (Ok (If condition)) goes =
    let len : length (r.pending ++ (number ∷ [])) ≡ suc (length r.pending) = omega (arith, length-append r.pending (number ∷ [])) in
    goes (with_condition r number condition)
    ∙ ap (λ n. lines_of large (record { rules = r.rules; pending = n }) lines >>= behind (with_condition r number condition)) len
    ∙ with_line r (with_condition r number condition) (line_with number (If condition)) (lines_of large (record { rules = r.rules; pending = suc (length r.pending) }) lines) (condition_behind r number condition)
step large r number lines (Ok Endif) goes =
    either_list r.pending
    (λ is. rw is)
    (λ first pending is.
    let len = length-take-le (length pending) (first ∷ pending) (omega arith) in
    let ended = goes (without_last r (take (length pending) (first ∷ pending))) in
    rw (closed_is r first pending is, ap length is)
    (ended ∙ ap (λ n. lines_of large (record { rules = r.rules; pending = n }) lines >>= behind (without_last r (take (length pending) (first ∷ pending)))) len
    ∙ with_line r (without_last r (take (length pending) (first ∷ pending))) (line_with number Endif)
    (lines_of large (record { rules = r.rules; pending = length pending }) lines) (λ rest. end_behind r number first pending rest is)))

at_end : (r : Reading) (pending : List ℕ) → finished r pending ≡ ends r [] (first_open pending [])
at_end r [] = rw (append-nil r.entries)
at_end r (first ∷ pending) = refl

pub goes : (large : Option ℕ) (r : Reading) (lines : List Logical) → goes_on large r lines ≡ (lines_of large (count_of r) lines >>= behind r)
goes large r [] = at_end r r.pending
goes large r (logical ∷ lines) = step (one_less large) r logical.line lines (entry_of (is_here large) logical.text) (λ next. goes (one_less large) next lines)

from_start : (lines : List Line) (pending : Option ℕ) → ends start lines pending ≡ unless_unclosed lines pending
from_start lines None = refl
from_start lines (Some number) = refl

all_behind : (lines : Result (List Line) (ℕ × Reason)) → (lines >>= behind start) ≡ (lines >>= λ all. unless_unclosed all (first_unclosed all))
all_behind (Ok lines) = from_start lines (first_unclosed lines)
all_behind (Err why) = refl

pub table_is : (large : Option ℕ) (lines : List Logical) → goes_on large start lines ≡ table_with large lines
table_is large lines = goes large start lines ∙ all_behind (lines_of large no_lines lines)

-- what is known after so many lines, whichever of those after is too large
abbrev pub further : ℕ → Option ℕ → Option ℕ
further i large = option_map (λ n. i + n) large

abbrev pub Led : List Logical → ℕ → Reading → Type 0
Led lines i r = (large : Option ℕ) → goes_on (further i large) start lines ≡ goes_on large r (drop i lines)

further_none : (large : Option ℕ) → further 0 large ≡ large
further_none None = refl
further_none (Some n) = ap Some (omega arith)

pub led_first : (lines : List Logical) → Led lines 0 start
led_first lines large = ap (λ o. goes_on o start lines) (further_none large)

-- after a line that is taken the others go on
abbrev later : Option ℕ → Option ℕ
later large = option_map suc large

later_further : (i : ℕ) (large : Option ℕ) → further i (later large) ≡ further (i + 1) large
later_further i None = refl
later_further i (Some n) = ap Some (omega arith)

not_here : (large : Option ℕ) → is_here (later large) ≡ false
not_here None = refl
not_here (Some n) = refl

one_less_later : (large : Option ℕ) → one_less (later large) ≡ large
one_less_later None = refl
one_less_later (Some n) = refl

pub taken_at : (lines : List Logical) (r next : Reading) (i : ℕ) (logical : Logical) → i < length lines → logical ≡ get_or lines i logical
    → takes false r logical.line logical.text ≡ Ok next → Led lines i r → Led lines (i + 1) next
taken_at lines r next i logical within at is led large =
    let first : drop i lines ≡ logical ∷ drop (i + 1) lines = drop_more lines i logical within ∙ ap (λ l. l ∷ drop (i + 1) lines) (sym at) in
    ap (λ o. goes_on o start lines) (sym (later_further i large)) ∙ led (later large)
    ∙ rw (first, not_here large, is, one_less_later large)

-- a line that is not taken is the one that is refused
pub refused_at : (lines : List Logical) (r : Reading) (i : ℕ) (logical : Logical) (why : Reason) → i < length lines → logical ≡ get_or lines i logical
    → Led lines i r → takes false r logical.line logical.text ≡ Err why → table_with None lines ≡ Err (logical.line, why)
refused_at lines r i logical why within at led is =
    let first : drop i lines ≡ logical ∷ drop (i + 1) lines = drop_more lines i logical within ∙ ap (λ l. l ∷ drop (i + 1) lines) (sym at) in
    sym (table_is None lines) ∙ led None ∙ rw (first, is)

-- a line whose pattern is too large is the one that is refused
pub too_large_at : (lines : List Logical) (r : Reading) (i : ℕ) (logical : Logical) (why : Reason) → i < length lines → logical ≡ get_or lines i logical
    → Led lines i r → takes true r logical.line logical.text ≡ Err why → table_with (Some (i + 0)) lines ≡ Err (logical.line, why)
too_large_at lines r i logical why within at led is =
    let first : drop i lines ≡ logical ∷ drop (i + 1) lines = drop_more lines i logical within ∙ ap (λ l. l ∷ drop (i + 1) lines) (sym at) in
    sym (table_is (Some (i + 0)) lines) ∙ led (Some 0) ∙ rw (first, is)

-- after the last line the table is what was read
pub all_taken : (lines : List Logical) (r : Reading) (i : ℕ) → length lines ≤ i → Led lines i r → table_with None lines ≡ finished r r.pending
all_taken lines r i past led = sym (table_is None lines) ∙ led None ∙ rw (drop_all i lines past)
