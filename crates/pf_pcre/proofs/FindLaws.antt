-- A walk over the lines of a table finds the value of the first rule that applies.
use Rattle.std.proofs.Common.{◌≡◌, ℕ, zero, suc, ◌+◌, ◌-◌, true, false, List, [], ◌∷◌, drop, Option, Some, None, refl, ap, ◌∙◌, arith}
use Rattle.std.proofs.lemmas.Bool.{and_parts, ne_eqb}
use Rattle.std.specs.List.{list_all}
use Rattle.pf_pcre.specs.Clauses.Steps.{stepped}
use Rattle.pf_pcre.specs.Tables.{first_of, first_value, holds, rule_value, rules_of}
use Rattle.pf_pcre.specs.declared.parts.Step.{Step}
use Rattle.pf_pcre.specs.declared.parts.Step.TheVariants.{Found, On}
use Rattle.pf_pcre.specs.declared.entry.Condition.{Condition}
use Rattle.pf_pcre.specs.declared.entry.Entry.{Entry}
use Rattle.pf_pcre.specs.declared.entry.Entry.TheVariants.{Endif, If, Rule}
use Rattle.pf_pcre.proofs.Cases.{either_option, either_way}

-- the value of the first rule from a place on, where so many of the open conditions are passed over
abbrev pub goes_on : (ℕ → Option (List ℕ)) → Step → Option (List ℕ)
goes_on behind (Found value) = Some value
goes_on behind (On skipped) = behind skipped

abbrev pub walk : List ℕ → ℕ → List Entry → Option (List ℕ)
walk text skipped [] = None
walk text skipped (entry ∷ entries) = goes_on (λ next. walk text next entries) (stepped text skipped entry)

-- of these conditions, the innermost first, so many are passed over: the last of them does not hold, and those round it do
abbrev Skips : List ℕ → ℕ → List Condition → Type 0
Skips text zero conditions = list_all (holds text) conditions ≡ true
Skips text (suc skipped) conditions = (list_all (holds text) conditions ≡ false) × Skips text skipped (drop 1 conditions)

-- what does not hold of the outer conditions holds of no inner ones
none_within : (text : List ℕ) (condition : Condition) (conditions : List Condition) → list_all (holds text) conditions ≡ false
    → list_all (holds text) (condition ∷ conditions) ≡ false
none_within text condition conditions none = either_way (holds text condition) (λ h. rw (h, none)) (λ h. rw h)

all_outer : (text : List ℕ) (conditions : List Condition) → list_all (holds text) conditions ≡ true → list_all (holds text) (drop 1 conditions) ≡ true
all_outer text [] all = refl
all_outer text (condition ∷ conditions) all = (and_parts _ _ all).1

walks : (text : List ℕ) (skipped : ℕ) (conditions : List Condition) (entries : List Entry) → Skips text skipped conditions
    → first_of text (rules_of conditions entries) ≡ walk text skipped entries
walks text skipped conditions [] skips = refl
walks text zero conditions (Rule rule ∷ entries) skips =
    either_option (rule_value text rule)
    (λ h. rw (skips, h) (walks text zero conditions entries skips))
    (λ value h. rw (skips, h))
walks text (suc skipped) conditions (Rule rule ∷ entries) skips = rw (skips.0, ne_eqb (suc skipped) 0 (omega arith)) (walks text (suc skipped) conditions entries skips)
walks text zero conditions (If condition ∷ entries) skips =
    either_way (holds text condition)
    (λ h. rw h (walks text zero (condition ∷ conditions) entries (rw (h, skips))))
    (λ h. rw h (walks text 1 (condition ∷ conditions) entries (rw h, skips)))
walks text (suc skipped) conditions (If condition ∷ entries) skips =
    let more : suc (suc skipped) ≡ suc skipped + 1 = omega arith in
    rw (ne_eqb (suc skipped) 0 (omega arith))
    (walks text (suc (suc skipped)) (condition ∷ conditions) entries (none_within text condition conditions skips.0, skips) ∙ ap (λ n. walk text n entries) more)
walks text zero conditions (Endif ∷ entries) skips = walks text zero (drop 1 conditions) entries (all_outer text conditions skips)
walks text (suc skipped) conditions (Endif ∷ entries) skips =
    let less : skipped ≡ suc skipped - 1 = omega arith in
    walks text skipped (drop 1 conditions) entries skips.1 ∙ ap (λ n. walk text n entries) less

pub walk_is_first : (text : List ℕ) (entries : List Entry) → first_value entries text ≡ walk text 0 entries
unfolding first_value
walk_is_first text entries = walks text 0 [] entries refl
