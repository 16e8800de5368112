-- What the pairs of a cdb file answer: keys and values may have been stored with a null byte after them (postmap(1), -N and -n).
-- That both keys are asked for follows Postfix's own reader of cdb files. That the one without the null byte comes first is postgate's own.
use Rattle.std.specs.Prelude.{ℕ, ◌-◌, ◌==◌, ◌&&◌, Bool, nat_lt, List, [], ◌∷◌, ◌++◌, length, take, Option, slice_index, bytes_eq, find, if◌then◌else◌}
use Rattle.std.specs.Option.{option_map, option_or}
use Rattle.pf_base.specs.declared.pair.Pair.{Pair}

-- `b'\0'`
abbrev pub null : ℕ
null = 0

-- the value of the first pair that has a key
abbrev pub value_of : List Pair → List ℕ → Option (List ℕ)
value_of pairs key = option_map (λ pair. pair.value) (find (λ pair. bytes_eq pair.key key) pairs)

-- whether a null byte is at the end of a text
unfoldable pub ends_in_null : List ℕ → Bool
ends_in_null text = nat_lt 0 (length text) && (slice_index text (length text - 1) == null)

-- a text without it
unfoldable pub without_null : List ℕ → List ℕ
without_null text = if ends_in_null text then take (length text - 1) text else text

-- the value of a key, else that of the key with a null byte after it, less the null byte after the value
unfoldable pub answer_of : List Pair → List ℕ → Option (List ℕ)
answer_of pairs key = option_or (value_of pairs key) (option_map without_null (value_of pairs (key ++ null ∷ [])))

-- a pair as it is listed: without the null bytes after its key and its value, where both have one
unfoldable pub listed_pair : Pair → Pair
listed_pair pair =
    if ends_in_null pair.key && ends_in_null pair.value then record { key = without_null pair.key; value = without_null pair.value } else pair
