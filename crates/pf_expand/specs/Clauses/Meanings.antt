-- What names mean, as the code keeps it, and their values by levels. Words of the code's contracts.
use Rattle.std.specs.Prelude.{◌≡◌, ℕ, zero, suc, List, [], Option, None, Some, Ok, Err}
use Rattle.indexmap.specs.IndexMap.{insert_entry}
use Rattle.std.specs.List.{position}
use Rattle.std.specs.Map.{keys_of, lookup}
use Rattle.std.specs.Option.{unwrap_or}
use Rattle.std.specs.Str.{bytes_eq}
use Rattle.pf_base.specs.Meanings.{Source}
use Rattle.pf_base.specs.declared.meaning.Meaning.{Meaning}
use Rattle.pf_base.specs.declared.meaning.Meaning.TheVariants.{Is, DomainOf}
use Rattle.pf_expand.specs.Expansion.{Answer, within_limit}
use Rattle.pf_expand.specs.Names.{domain_of}
use Rattle.pf_expand.specs.Clauses.Runs.{run}
use Rattle.pf_expand.specs.Clauses.Tokens.{tokens_of}
use Rattle.pf_expand.specs.declared.flaw.Flaw.TheVariants.{BadForm, TooDeep}
use Rattle.pf_expand.specs.declared.run.Mode.TheVariants.{Counts}
use Rattle.pf_expand.specs.declared.token.Token.{Token}

-- what is kept of what a name stands for: a text in its pieces, None where a dollar sign begins no form
abbrev pub Kept : Type 0
Kept = Meaning (Option (List Token)) (List ℕ)

abbrev pub kept : Source → Kept
kept (Is text) = Is (tokens_of text)
kept (DomainOf name) = DomainOf name

-- its value, where names have these values
abbrev pub meaning_value : (List ℕ → Answer) → Kept → Answer
meaning_value values (Is (Some tokens)) = within_limit (run values Counts tokens)
meaning_value values (Is None) = Err BadForm
meaning_value values (DomainOf name) = domain_of (values name)

-- what a name means, if it was set, and its place
abbrev pub meaning_in : List (List ℕ × Kept) → List ℕ → Option Kept
meaning_in names name = lookup (bytes_eq name) names

abbrev pub place_in : List (List ℕ × Kept) → List ℕ → Option ℕ
place_in names name = position (bytes_eq name) (keys_of names)

-- names with what one of them means now
abbrev pub with_meaning : List (List ℕ × Kept) → List ℕ → Kept → List (List ℕ × Kept)
with_meaning names name meaning = insert_entry bytes_eq names name meaning

-- what a name means: an empty text, where it was not set
abbrev pub meaning_of : List (List ℕ × Kept) → List ℕ → Kept
meaning_of names name = unwrap_or (meaning_in names name) (Is (Some []))

-- the value of a name, with so many levels left
unfoldable pub level_value : List (List ℕ × Kept) → ℕ → List ℕ → Answer
level_value names zero name = Err TooDeep
level_value names (suc n) name = meaning_value (level_value names n) (meaning_of names name)

-- these names mean what they stand for
abbrev pub AreNames : List (List ℕ × Kept) → (List ℕ → Source) → Type 0
AreNames names sources = (name : List ℕ) → meaning_of names name ≡ kept (sources name)
