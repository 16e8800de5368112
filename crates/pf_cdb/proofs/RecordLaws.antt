-- The records of a file that stand one after the other, and the slots that name them.
use Rattle.std.proofs.Common.{◌≡◌, ◌+◌, ◌<◌, ◌≤◌, ◌^◌, ℕ, true, false, List, [], ◌∷◌, ◌++◌, Option, Some, cond, length, map, refl, ap, ◌∙◌, sym, subst, arith, ⊎_elim}
use Rattle.std.specs.List.{All, AllPairs, find, flat_map, sum_by}
use Rattle.std.specs.Prelude.{◌==◌}
use Rattle.std.specs.Option.{option_map}
use Rattle.std.specs.Str.{bytes_eq}
use Rattle.std.proofs.lemmas.Bool.{and_from, and_right, cases_Bool, eq-eqb}
use Rattle.std.proofs.lemmas.List.Elements.{All-cons, All-nil, All-weaker}
use Rattle.std.proofs.lemmas.List.Kept.{AllPairs-cons}
use Rattle.std.proofs.lemmas.List.Sums.{sum_by-cons}
use Rattle.std.proofs.lemmas.Slice.Eq.{bytes_eq-Decides}
use Rattle.pf_base.specs.declared.pair.Pair.{Pair}
use Rattle.pf_cdb.proofs.FileLaws.{length_record}
use Rattle.pf_cdb.proofs.StandsLaws.{Stands, stands_left, stands_right, take_there, word_there}
use Rattle.pf_cdb.proofs.WrittenLaws.{hash_low}
use Rattle.pf_cdb.specs.Hash.{hash_of}
use Rattle.pf_cdb.specs.Held.{has_key}
use Rattle.pf_cdb.specs.Layout.{key_at, key_length, pair_at, value_at, value_length}
use Rattle.pf_cdb.specs.Written.{bytes_of, placed, record_bytes, record_size}
use Rattle.pf_cdb.specs.declared.layout.Slot.{Slot}

-- the record at a place is that of a pair
pub record IsRecord (file : List ℕ) (at : ℕ) (pair : Pair) : Type 0 where
  pub key_size : key_length file at ≡ length pair.key
  pub value_size : value_length file at ≡ length pair.value
  pub key : key_at file at ≡ pair.key
  pub value : value_at file at ≡ pair.value

pub record_is : (file : List ℕ) (at : ℕ) (pair : Pair) → record_size pair ≤ 67108864 → Stands file at (record_bytes pair) → IsRecord file at pair
record_is file at pair fits stands =
    let k = bytes_of (length pair.key) in
    let v = bytes_of (length pair.value) in
    let behind_key = stands_right file at 4 k (v ++ (pair.key ++ pair.value)) refl stands in
    let key_size : key_length file at ≡ length pair.key =
    word_there file at (length pair.key) (omega (arith, fits)) (stands_left file at k (v ++ (pair.key ++ pair.value)) stands) in
    let value_size : value_length file at ≡ length pair.value =
    word_there file (at + 4) (length pair.value) (omega (arith, fits)) (stands_left file (at + 4) v (pair.key ++ pair.value) behind_key) in
    let eight : at + 4 + 4 ≡ at + 8 = omega arith in
    let both = subst (λ n. Stands file n (pair.key ++ pair.value)) eight (stands_right file (at + 4) 4 v (pair.key ++ pair.value) refl behind_key) in
    let value = stands_right file (at + 8) (length pair.key) pair.key pair.value refl both in
    record {
      key_size = key_size;
      value_size = value_size;
      key = take_there file (at + 8) (key_length file at) pair.key (sym key_size) (stands_left file (at + 8) pair.key pair.value both);
      value = take_there file (at + 8 + key_length file at) (value_length file at) pair.value (sym value_size)
          (subst (λ n. Stands file (at + 8 + n) pair.value) (sym key_size) value);
    }

-- a slot names a record that lies in the file and whose key has the slot's hash
pub record IsPlaced (file : List ℕ) (slot : Slot) : Type 0 where
  pub prefix : 2048 ≤ slot.at
  pub whole : slot.at + 8 + key_length file slot.at + value_length file slot.at ≤ length file
  pub hash : hash_of (key_at file slot.at) ≡ slot.hash
  pub low : slot.hash < 2 ^ 32

is_placed : (file : List ℕ) (at : ℕ) (pair : Pair) → 2048 ≤ at → at + record_size pair ≤ length file → IsRecord file at pair
    → IsPlaced file (record { hash = hash_of pair.key; at = at })
is_placed file at pair prefix whole is = record {
  prefix = prefix;
  whole = omega (arith, is.key_size, is.value_size, whole);
  hash = ap hash_of is.key;
  low = hash_low pair.key;
}

-- records that are from a place on, within the file
pub record RecordsStand (file : List ℕ) (at : ℕ) (pairs : List Pair) : Type 0 where
  pub prefix : 2048 ≤ at
  pub whole : at + sum_by record_size pairs ≤ length file
  pub fits : length file ≤ 67108864
  pub stand : Stands file at (flat_map record_bytes pairs)

pub first_record : (file : List ℕ) (at : ℕ) (pair : Pair) (pairs : List Pair) → RecordsStand file at (pair ∷ pairs) → IsRecord file at pair
first_record file at pair pairs records =
    record_is file at pair (omega (arith, records.whole, records.fits, sum_by-cons record_size pair pairs))
    (stands_left file at (record_bytes pair) (flat_map record_bytes pairs) records.stand)

pub other_records : (file : List ℕ) (at : ℕ) (pair : Pair) (pairs : List Pair) → RecordsStand file at (pair ∷ pairs) → RecordsStand file (at + record_size pair) pairs
other_records file at pair pairs records = record {
  prefix = omega (arith, records.prefix);
  whole = omega (arith, records.whole, sum_by-cons record_size pair pairs);
  fits = records.fits;
  stand = stands_right file at (record_size pair) (record_bytes pair) (flat_map record_bytes pairs) (length_record pair) records.stand;
}

pub all_placed : (file : List ℕ) (at : ℕ) (pairs : List Pair) → RecordsStand file at pairs → All (IsPlaced file) (placed at pairs)
all_placed file at [] records = All-nil (IsPlaced file)
all_placed file at (pair ∷ pairs) records =
    All-cons (IsPlaced file) (record { hash = hash_of pair.key; at = at }) (placed (at + record_size pair) pairs)
    (is_placed file at pair records.prefix (omega (arith, records.whole, sum_by-cons record_size pair pairs)) (first_record file at pair pairs records))
    (all_placed file (at + record_size pair) pairs (other_records file at pair pairs records))

-- a slot has a key where its pair has it
pub key_of_pair : (file key : List ℕ) (at : ℕ) (pair : Pair) → IsRecord file at pair
    → has_key file key (record { hash = hash_of pair.key; at = at }) ≡ bytes_eq pair.key key
key_of_pair file key at pair is =
    let same : bytes_eq (key_at file at) key ≡ bytes_eq pair.key key = ap (λ k. bytes_eq k key) is.key in
    ⊎_elim {A = bytes_eq pair.key key ≡ true} {B = bytes_eq pair.key key ≡ false}
    (λ t.
    let keys : pair.key ≡ key = (bytes_eq-Decides pair.key key).0 t in
    and_from (hash_of pair.key == hash_of key) (bytes_eq (key_at file at) key)
    (eq-eqb (hash_of pair.key) (hash_of key) (ap hash_of keys)) (same ∙ t) ∙ sym t)
    (λ f. and_right (hash_of pair.key == hash_of key) (bytes_eq (key_at file at) key) (same ∙ f) ∙ sym f)
    (cases_Bool (bytes_eq pair.key key))

-- the pair of the first slot that has a key is the first pair with the key
abbrev pair_found : List ℕ → Option Slot → Option Pair
pair_found file found = option_map (pair_at file) (option_map (λ slot. slot.at) found)

pub same_pair : (file : List ℕ) (at : ℕ) (pair : Pair) → IsRecord file at pair → pair_at file at ≡ pair
same_pair file at pair is =
    ap (λ k. record { key = k; value = value_at file at }) is.key ∙ ap (λ v. record { key = pair.key; value = v }) is.value

pub pairs_found : (file key : List ℕ) (at : ℕ) (pairs : List Pair) → RecordsStand file at pairs
    → option_map (pair_at file) (option_map (λ slot. slot.at) (find (has_key file key) (placed at pairs))) ≡ find (λ pair. bytes_eq pair.key key) pairs
pairs_found file key at [] records = refl
pairs_found file key at (pair ∷ pairs) records =
    let is = first_record file at pair pairs records in
    let slot : Slot = record { hash = hash_of pair.key; at = at } in
    let rest = find (has_key file key) (placed (at + record_size pair) pairs) in
    let test = key_of_pair file key at pair is in
    let later = pairs_found file key (at + record_size pair) pairs (other_records file at pair pairs records) in
    ap (λ b. pair_found file (cond b (Some slot) rest)) test
    ∙ ⊎_elim {A = bytes_eq pair.key key ≡ true} {B = bytes_eq pair.key key ≡ false}
    (λ t.
    ap (λ b. pair_found file (cond b (Some slot) rest)) t ∙ ap Some (same_pair file at pair is)
    ∙ sym (ap (λ b. cond b (Some pair) (find (λ p. bytes_eq p.key key) pairs)) t))
    (λ f.
    ap (λ b. pair_found file (cond b (Some slot) rest)) f ∙ later
    ∙ sym (ap (λ b. cond b (Some pair) (find (λ p. bytes_eq p.key key) pairs)) f))
    (cases_Bool (bytes_eq pair.key key))

-- the places rise
pub places_above : (low at : ℕ) (pairs : List Pair) → low ≤ at → All (λ place. low ≤ place) (map (λ slot. slot.at) (placed at pairs))
places_above low at [] le = All-nil (λ place. low ≤ place)
places_above low at (pair ∷ pairs) le =
    All-cons (λ place. low ≤ place) at (map (λ slot. slot.at) (placed (at + record_size pair) pairs)) le
    (places_above low (at + record_size pair) pairs (omega (arith, le)))

pub places_rise : (at : ℕ) (pairs : List Pair) → AllPairs (λ x y. x < y) (map (λ slot. slot.at) (placed at pairs))
places_rise at [] = λ i j d less low. absurd (omega arith)
places_rise at (pair ∷ pairs) =
    let later = map (λ slot. slot.at) (placed (at + record_size pair) pairs) in
    AllPairs-cons (λ x y. x < y) at later
    (All-weaker (λ place. at + 1 ≤ place) (λ place. at < place) (λ place le. omega arith) later
    (places_above (at + 1) (at + record_size pair) pairs (omega arith)))
    (places_rise (at + record_size pair) pairs)

-- the pairs that are read at the places are those that were written
pub pairs_read : (file : List ℕ) (at : ℕ) (pairs : List Pair) → RecordsStand file at pairs → map (pair_at file) (map (λ slot. slot.at) (placed at pairs)) ≡ pairs
pairs_read file at [] records = refl
pairs_read file at (pair ∷ pairs) records =
    ap (λ p. p ∷ map (pair_at file) (map (λ slot. slot.at) (placed (at + record_size pair) pairs))) (same_pair file at pair (first_record file at pair pairs records))
    ∙ ap (λ l. pair ∷ l) (pairs_read file (at + record_size pair) pairs (other_records file at pair pairs records))
