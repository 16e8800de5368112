-- What tables mean (DATABASE_README), a definition for each kind.
use Rattle.std.specs.Prelude.{ℕ, Bool, true, List, [], ◌∷◌, Option, None, Some, map, if◌then◌else◌}
use Rattle.std.specs.List.{find}
use Rattle.std.specs.Str.{bytes_eq}
use Rattle.pf_base.specs.Text.Names.{folded}
use Rattle.pf_base.specs.declared.pair.Pair.{Pair}
use Rattle.pf_asks.specs.declared.lookup.Found.{Found}
use Rattle.pf_asks.specs.declared.lookup.Found.TheVariants.{Value, Absent}
use Rattle.pf_asks.specs.declared.lookup.Results.TheVariants.{Listed}
use Rattle.pf_asks.specs.Looking.{Meaning}

-- static: one value for every key
abbrev pub static_meaning : List ℕ → Meaning
static_meaning value = record { value = λ key. Some (Value value); partial_keys = true; results = Listed (value ∷ []) }

-- fail: every lookup fails
abbrev pub fail_meaning : Meaning
fail_meaning = record { value = λ key. None; partial_keys = true; results = Listed [] }

-- the value of a pair, if there is one
abbrev pub found_as : Option Pair → Found
found_as None = Absent
found_as (Some pair) = Value pair.value

-- what the first pair of a key says
abbrev pub found_in : List Pair → List ℕ → Found
found_in pairs key = found_as (find (λ pair. bytes_eq key pair.key) pairs)

-- a key as a table keeps it, with small letters or as it is
abbrev pub kept_key : Bool → List ℕ → List ℕ
kept_key folds key = if folds then folded key else key

-- pairs, and whether letters count as the same in either case: then the keys of the pairs are folded
pub record Keyed : Type 0 where
  pub folds : Bool
  pub pairs : List Pair

-- texthash and inline: the value of the pair of this key
abbrev pub keyed_meaning : Keyed → Meaning
keyed_meaning table = record {
  value = λ key. Some (found_in table.pairs (kept_key table.folds key));
  partial_keys = true;
  results = Listed (map (λ pair. pair.value) table.pairs);
}
