-- What postmap prints of a table (postmap(1), -q and -s). The tab is postgate's own.
use Rattle.std.specs.Prelude.{ℕ, ◌++◌, Bool, List, [], ◌∷◌, Option, None, Some, is_some}
use Rattle.std.specs.List.{flat_map, list_any}
use Rattle.std.specs.Option.{option_map_or}
use Rattle.pf_base.specs.Text.Ascii as ascii
use Rattle.pf_base.specs.declared.pair.Pair.{Pair}
use Rattle.pf_asks.specs.Looking.{Meaning}
use Rattle.pf_asks.specs.declared.lookup.Found.{Found}
use Rattle.pf_asks.specs.declared.lookup.Found.TheVariants.{Value, Absent}

-- a table that fails at a key has no value for it
abbrev pub value_found : Option Found → Option (List ℕ)
value_found None = None
value_found (Some Absent) = None
value_found (Some (Value value)) = Some value

-- the value that a table has for a key
abbrev pub value_at : Meaning → List ℕ → Option (List ℕ)
value_at meaning key = value_found (meaning.value key)

-- the line of a value; of none nothing
abbrev pub value_line : Option (List ℕ) → List ℕ
value_line None = []
value_line (Some value) = value ++ (ascii.line_feed ∷ [])

-- the line of a pair
abbrev pub pair_line : List ℕ → List ℕ → List ℕ
pair_line key value = key ++ (ascii.tab ∷ (value ++ (ascii.line_feed ∷ [])))

-- the lines of pairs
abbrev pub pair_lines : List Pair → List ℕ
pair_lines pairs = flat_map (λ pair. pair_line pair.key pair.value) pairs

-- the line of a key and its value; of a key without a value nothing
abbrev pub key_line : Meaning → List ℕ → List ℕ
key_line meaning key = option_map_or (pair_line key) (value_at meaning key) []

-- the lines of keys
abbrev pub key_lines : Meaning → List (List ℕ) → List ℕ
key_lines meaning keys = flat_map (key_line meaning) keys

-- there is a key that has a value
abbrev pub has_value : Meaning → List (List ℕ) → Bool
has_value meaning keys = list_any (λ key. is_some (value_at meaning key)) keys
