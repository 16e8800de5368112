-- What the sieve of several rules says of them.
use Rattle.std.proofs.Common.{◌≡◌, ℕ, ◌+◌, ◌<◌, ◌≤◌, true, false, List, [], ◌∷◌, ◌++◌, map, take, length, get_or, Option, Some, None, refl, sym, ap, subst, ◌∙◌, arith, inl, inr, ⊎_elim, true≢false}
use Rattle.std.specs.Prelude.{All, is_none, is_some, option_map}
use Rattle.std.specs.Option.{option_or}
use Rattle.std.proofs.Math.Logic.{∥∥₁_elim, ∥∥₁_prop}
use Rattle.std.proofs.lemmas.Bool.{and_parts}
use Rattle.std.proofs.Props.{props}
use Rattle.std.proofs.lemmas.List.{take_all, take_more}
use Rattle.std.proofs.lemmas.List.Folds.{list_all-append}
use Rattle.regex.specs.Patterns.{Re, alt, alt_all, empty, find}
use Rattle.regex_hir.specs.Meaning.{meaning}
use Rattle.regex_hir.specs.declared.hir.Hir.{Hir}
use Rattle.regex_hir.proofs.FindLemmas.{find_complete, find_sound}
use Rattle.regex_hir.proofs.OptionLemmas.{option_cases}
use Rattle.regex_meta.proofs.LeftmostLemmas.{find_first}
use Rattle.regex_meta.specs.Programs.{pattern_of}
use Rattle.regex_meta.specs.declared.program.Program.{Program}
use Rattle.pf_pcre.specs.Patterns.{expanded, span_of}
use Rattle.pf_pcre.specs.Tables.{rule_value}
use Rattle.pf_pcre.specs.Clauses.Built.{Passes}
use Rattle.pf_pcre.specs.Clauses.Runs.{PassesAll, PassesRule, TreesPass, first_rule, none_matches}
use Rattle.pf_pcre.specs.declared.entry.Rule.{Rule}

-- a rule that is not negated has no value where its pattern does not match
pub passes_rule : (re : Re) (rule : Rule) → rule.condition.negated ≡ false → Passes re rule.condition.pattern → PassesRule re rule
passes_rule re rule plainly passes =
    ∥∥₁_elim passes ∥∥₁_prop (λ p. ∣ (λ text bytes none. rw plainly (ap (option_map (λ seen. expanded text (span_of seen) rule.pieces)) (p text bytes none))) ∣₁)

-- one rule more
first_more : (text : List ℕ) (rules : List Rule) (rule : Rule) → first_rule text rules ≡ None → rule_value text rule ≡ None → first_rule text (rules ++ (rule ∷ [])) ≡ None
first_more text [] rule none last = rw last refl
first_more text (first ∷ rules) rule none last =
    let p = both_none (rule_value text first) (first_rule text rules) none in rw (p.0, first_more text rules rule p.1 last) refl where
      both_none : (a b : Option (List ℕ)) → option_or a b ≡ None → (a ≡ None) × (b ≡ None)
      both_none None b e = (refl, e)
      both_none (Some x) b e = cc

no_match_in_last : (text : List ℕ) (tree : Hir) → none_matches text (tree ∷ []) ≡ true → find (meaning tree) text 0 ≡ None
no_match_in_last text tree h = none_of (find (meaning tree) text 0) (and_parts _ _ h).0 where
  none_of : {A : Type 0} (o : Option A) → is_none o ≡ true → o ≡ None
  none_of None e = refl
  none_of (Some x) e = cc

pub one_more : (trees : List Hir) (rules : List Rule) (tree : Hir) (rule : Rule) → TreesPass trees rules → PassesRule (meaning tree) rule
    → TreesPass (trees ++ (tree ∷ [])) (rules ++ (rule ∷ []))
one_more trees rules tree rule these this =
    ∥∥₁_elim these ∥∥₁_prop (λ all. ∥∥₁_elim this ∥∥₁_prop (λ one. ∣ (λ text bytes none.
    let parts = and_parts _ _ (sym (list_all-append (λ t. is_none (find (meaning t) text 0)) trees (tree ∷ [])) ∙ none) in
    first_more text rules rule (all text bytes parts.0) (one text bytes (no_match_in_last text tree parts.1))) ∣₁))

pub none_more : TreesPass [] []
none_more = ∣ (λ text bytes none. refl) ∣₁

-- where an alternation has no match, neither of its sides has one
left_none : (a b : Re) (text : List ℕ) → find (alt a b) text 0 ≡ None → find a text 0 ≡ None
left_none a b text none =
    ⊎_elim (λ e. e)
    (λ m. let first = find_first a text 0 m.0 m.1 in
    absurd (true≢false (sym (find_complete (alt a b) text 0 _ _ first.from first.to (inl (find_sound a text 0 m.0 m.1).1)) ∙ ap is_some none)))
    (option_cases (find a text 0))

right_none : (a b : Re) (text : List ℕ) → find (alt a b) text 0 ≡ None → find b text 0 ≡ None
right_none a b text none =
    ⊎_elim (λ e. e)
    (λ m. let first = find_first b text 0 m.0 m.1 in
    absurd (true≢false (sym (find_complete (alt a b) text 0 _ _ first.from first.to (inr (find_sound b text 0 m.0 m.1).1)) ∙ ap is_some none)))
    (option_cases (find b text 0))

none_of_any : (text : List ℕ) (trees : List Hir) → find (alt_all (map meaning trees)) text 0 ≡ None → none_matches text trees ≡ true
none_of_any text [] none = refl
none_of_any text (tree ∷ trees) none =
    rw (left_none (meaning tree) (alt_all (map meaning trees)) text none, none_of_any text trees (right_none (meaning tree) (alt_all (map meaning trees)) text none)) refl

pub passes_all : (trees : List Hir) (rules : List Rule) (re : Re) → re ≡ alt_all (map meaning trees) → TreesPass trees rules → PassesAll re rules
passes_all trees rules re is these =
    ∥∥₁_elim these ∥∥₁_prop (λ all. ∣ (λ text bytes none. all text bytes (none_of_any text trees (subst (λ r. find r text 0 ≡ None) is none))) ∣₁)

-- the rules that a loop has seen at its end are all of them
pub all_seen : (trees : List Hir) (rules : List Rule) (i : ℕ) → length rules ≤ i → TreesPass trees (take i rules) → TreesPass trees rules
all_seen trees rules i past these = rw (take_all i rules past) at these

pub still_passes : (old new : Program) (before rules : List Rule) → new.hir ≡ old.hir → rules ≡ before → PassesAll (pattern_of old) before → PassesAll (pattern_of new) rules
still_passes old new before rules same kept passes = subst (λ hir. PassesAll (meaning hir) rules) (sym same) (subst (PassesAll (pattern_of old)) (sym kept) passes)

pub none_applies : (re : Re) (rules : List Rule) (text : List ℕ) → PassesAll re rules → All (λ b. b < 256) text → find re text 0 ≡ None → None ≡ first_rule text rules
none_applies re rules text passes bytes none = ∥∥₁_elim passes (hlevel props) (λ all. sym (all text bytes none))

-- the empty pattern matches each text
empty_matches : (text : List ℕ) → find empty text 0 ≡ None → ⊥
empty_matches text none = true≢false (sym (find_complete empty text 0 0 0 (omega arith) (omega arith) refl) ∙ ap is_some none)

pub empty_passes_rule : (re : Re) (rule : Rule) → re ≡ empty → PassesRule re rule
empty_passes_rule re rule is = ∣ (λ text bytes none. absurd (empty_matches text (subst (λ r. find r text 0 ≡ None) is none))) ∣₁

pub empty_passes_all : (rules : List Rule) (re : Re) → re ≡ empty → PassesAll re rules
empty_passes_all rules re is = ∣ (λ text bytes none. absurd (empty_matches text (subst (λ r. find r text 0 ≡ None) is none))) ∣₁

-- a rule more that a loop sees
pub more_at : (trees new : List Hir) (rules : List Rule) (i : ℕ) (tree : Hir) (rule : Rule) → i < length rules → rule ≡ get_or rules i rule → new ≡ trees ++ (tree ∷ [])
    → TreesPass trees (take i rules) → PassesRule (meaning tree) rule → TreesPass new (take (i + 1) rules)
more_at trees new rules i tree rule within at is these this =
    rw (is, take_more rules i rule within, ← at) (one_more trees (take i rules) tree rule these this)
