-- How pairs are kept: their keys and values one after another in one list of bytes, and a chain of places for the keys of each bucket,
-- from the last of them to the first. Words of the code's contracts.
use Rattle.std.specs.Prelude.{◌≡◌, ◌%◌, ◌<◌, ◌≤◌, ◌==◌, ℕ, zero, suc, Bool, List, [], ◌∷◌, Option, None, Some, length, map, take, slice_get, slice_index, slice_range, if◌then◌else◌}
use Rattle.std.specs.Hash.FoldHasher.{finish, initial, write}
use Rattle.std.specs.Option.{option_map}
use Rattle.std.specs.Str.{bytes_eq}
use Rattle.pf_base.specs.declared.pair.Pair.{Pair}
use Rattle.pf_table.specs.declared.pairs.Place.{Place}

-- the hash of a key
unfoldable pub hash_of : List ℕ → ℕ
hash_of key = finish (write initial key)

-- the bucket of a key, of so many
abbrev pub bucket_of : ℕ → List ℕ → ℕ
bucket_of buckets key = hash_of key % buckets

-- the pair at a place in bytes
abbrev pub pair_at : List ℕ → Place → Pair
pair_at bytes place = record { key = slice_range bytes place.key place.value; value = slice_range bytes place.value place.end }

abbrev pub pairs_at : List ℕ → List Place → List Pair
pairs_at bytes places = map (pair_at bytes) places

abbrev pub keys_of : List Pair → List (List ℕ)
keys_of pairs = map (λ pair. pair.key) pairs

-- which of some keys is this one
abbrev pub index_of : List ℕ → List (List ℕ) → Option ℕ
index_of key [] = None
index_of key (other ∷ keys) = if bytes_eq key other then Some 0 else option_map (λ n. suc n) (index_of key keys)

-- one key more before others, of which the last in a bucket is the n-th; whether it is in that bucket
abbrev pub or_first : ℕ → Bool → ℕ
or_first zero here = if here then 1 else 0
or_first (suc n) here = suc (suc n)

-- how many keys there are up to the last one in a bucket; 0 where none is in it
abbrev pub up_to_last : ℕ → ℕ → List (List ℕ) → ℕ
up_to_last buckets bucket [] = 0
up_to_last buckets bucket (key ∷ keys) = or_first (up_to_last buckets bucket keys) (bucket_of buckets key == bucket)

-- a place is in the bytes, its key is not among those before it, and it leads to the last of those in its bucket
pub record IsPlaced (bytes : List ℕ) (buckets : ℕ) (before : List (List ℕ)) (place : Place) : Type 0 where
  pub key : place.key ≤ place.value
  pub value : place.value ≤ place.end
  pub within : place.end ≤ length bytes
  pub previous : place.previous ≡ up_to_last buckets (bucket_of buckets (slice_range bytes place.key place.value)) before
  pub new : index_of (slice_range bytes place.key place.value) before ≡ None

-- the places of pairs, and for each bucket how many there are up to its last one
pub record IsKept (bytes : List ℕ) (places : List Place) (heads : List ℕ) : Type 0 where
  pub some : 0 < length heads
  pub placed : (i : ℕ) (place : Place) → slice_get places i ≡ Some place
      → IsPlaced bytes (length heads) (take i (keys_of (pairs_at bytes places))) place
  pub last : (bucket : ℕ) → bucket < length heads
      → slice_index heads bucket ≡ up_to_last (length heads) bucket (keys_of (pairs_at bytes places))
