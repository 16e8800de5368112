-- A table has a result for each rule.
use Rattle.std.proofs.Common.{◌≡◌, ℕ, ◌+◌, ◌<◌, ◌==◌, List, [], ◌∷◌, ◌++◌, length, Result, Ok, Err, sym, subst, arith, length-append}
use Rattle.std.specs.Prelude.{IfSome}
use Rattle.std.specs.List.{position_from}
use Rattle.pf_base.specs.Results.{◌>>=◌}
use Rattle.pf_cidr.specs.Clauses.Taking.{taken, takes, with_condition, with_rule}
use Rattle.pf_cidr.specs.Tables.{applies, entry_of, first_rule, result_of, rules_of, value_of}
use Rattle.pf_cidr.specs.declared.address.Addr.{Addr}
use Rattle.pf_cidr.specs.declared.entry.Entry.{Entry}
use Rattle.pf_cidr.specs.declared.entry.Entry.TheVariants.{Endif, If, Rule}
use Rattle.pf_cidr.specs.declared.entry.Pattern.{Pattern}
use Rattle.pf_cidr.specs.declared.reason.Reason.{Reason}
use Rattle.pf_cidr.specs.declared.table.Reading.{Reading}
use Rattle.pf_cidr.proofs.Cases.{either_way}

-- one line more
rules_more : (conditions : List Pattern) (entries : List Entry) (entry : Entry)
    → length (rules_of conditions (entries ++ (entry ∷ []))) ≡ length (rules_of conditions entries) + length (result_of entry [])
rules_more conditions [] (Rule pattern) = omega arith
rules_more conditions [] (If pattern) = omega arith
rules_more conditions [] Endif = omega arith
rules_more conditions (Rule pattern ∷ entries) entry = omega (arith, rules_more conditions entries entry)
rules_more conditions (If pattern ∷ entries) entry = rules_more _ entries entry
rules_more conditions (Endif ∷ entries) entry = rules_more _ entries entry

abbrev pub Counted : Reading → Type 0
Counted r = length r.results ≡ length (rules_of [] r.entries)

taken_counted : (r next : Reading) (number : ℕ) (value : List ℕ) (entry : Entry) → taken r number value entry ≡ Ok next → Counted r → Counted next
taken_counted r next number value (Rule pattern) is counted =
    let same : with_rule r pattern value ≡ next = cc in
    subst Counted same (omega (arith, counted, rules_more [] r.entries (Rule pattern), length-append r.results (value ∷ [])))
taken_counted r next number value (If pattern) is counted =
    let same : with_condition r number pattern ≡ next = cc in
    subst Counted same (omega (arith, counted, rules_more [] r.entries (If pattern)))
taken_counted r next number value Endif is counted =
    either_way (length r.pending == 0)
    (λ none. cc (rw none at is))
    (λ some.
    let ended = rw some at is in
    let entries : r.entries ++ (Endif ∷ []) ≡ next.entries = cc ended in
    let results : r.results ≡ next.results = cc ended in
    rw (sym entries, sym results) (omega (arith, counted, rules_more [] r.entries Endif)))

step_counted : (r next : Reading) (number : ℕ) (value : List ℕ) (entry : Result Entry Reason) → (entry >>= taken r number value) ≡ Ok next → Counted r → Counted next
step_counted r next number value (Ok entry) is counted = taken_counted r next number value entry is counted
step_counted r next number value (Err why) is counted = cc

pub takes_counted : (r next : Reading) (number : ℕ) (text : List ℕ) → takes r number text ≡ Ok next → Counted r → Counted next
takes_counted r next number text is counted = step_counted r next number (value_of text) (entry_of text) is counted

-- a place in a list is below its length
place_within : (addr : Addr) (start : ℕ) (rules : List (List Pattern)) → IfSome (position_from (applies addr) start rules) (λ place. place < start + length rules)
place_within addr start [] = tt
place_within addr start (rule ∷ rules) =
    either_way (applies addr rule)
    (λ h. rw h (omega arith))
    (λ h. rw h (subst (λ n. IfSome (position_from (applies addr) (start + 1) rules) (λ place. place < n)) (omega arith) (place_within addr (start + 1) rules)))

pub rule_within : (addr : Addr) (entries : List Entry) → IfSome (first_rule entries addr) (λ rule. rule < length (rules_of [] entries))
unfolding first_rule
rule_within addr entries =
    subst (λ n. IfSome (position_from (applies addr) 0 (rules_of [] entries)) (λ place. place < n)) (omega arith) (place_within addr 0 (rules_of [] entries))
