-- Rules one after the other, and what a tree that stands for them says of texts in which it has no match. Words of contracts, by no standard.
use Rattle.std.specs.Prelude.{◌≡◌, ℕ, ◌<◌, All, Bool, true, List, [], ◌∷◌, Option, None, is_none}
use Rattle.std.specs.List.{list_all}
use Rattle.std.specs.Option.{option_or}
use Rattle.regex.specs.Patterns.{Re, find}
use Rattle.regex_hir.specs.Meaning.{meaning}
use Rattle.regex_hir.specs.declared.hir.Hir.{Hir}
use Rattle.pf_pcre.specs.Tables.{rule_value}
use Rattle.pf_pcre.specs.declared.entry.Rule.{Rule}

-- the value of the first of these rules that applies
abbrev pub first_rule : List ℕ → List Rule → Option (List ℕ)
first_rule text [] = None
first_rule text (rule ∷ rest) = option_or (rule_value text rule) (first_rule text rest)

-- where a tree has no match, a rule does not apply
abbrev pub PassesRule : Re → Rule → Type 0
PassesRule re rule = ∥ ((text : List ℕ) → All (λ b. b < 256) text → find re text 0 ≡ None → rule_value text rule ≡ None) ∥₁

-- where a tree has no match, none of these rules applies
abbrev pub PassesAll : Re → List Rule → Type 0
PassesAll re rules = ∥ ((text : List ℕ) → All (λ b. b < 256) text → find re text 0 ≡ None → first_rule text rules ≡ None) ∥₁

-- none of these trees has a match in a text
abbrev pub none_matches : List ℕ → List Hir → Bool
none_matches text trees = list_all (λ tree. is_none (find (meaning tree) text 0)) trees

-- where none of these trees has a match, none of these rules applies
abbrev pub TreesPass : List Hir → List Rule → Type 0
TreesPass trees rules = ∥ ((text : List ℕ) → All (λ b. b < 256) text → none_matches text trees ≡ true → first_rule text rules ≡ None) ∥₁
