-- What is held for a key: its slot, and where it lies in a sound file.
use Rattle.std.proofs.Common.{◌≡◌, ◌≢◌, ◌+◌, ◌/◌, ◌%◌, ◌<◌, ◌≤◌, ℕ, Bool, true, not, List, Option, Some, None, length, get_or, refl, ap, ◌∙◌, sym, arith}
use Rattle.std.specs.List.{find, position_or_len, prefix_len}
use Rattle.std.specs.Prelude.{take_while}
use Rattle.std.specs.Option.{option_map}
use Rattle.std.proofs.lemmas.Bool.{eq-eqb, true≢false}
use Rattle.std.proofs.lemmas.List.{get_or-take, length-take}
use Rattle.std.proofs.lemmas.List.Folds.{find_at}
use Rattle.std.proofs.lemmas.List.Sums.{passes_at_first, prefix_len_passes}
use Rattle.std.proofs.lemmas.Nat.{mod_below}
use Rattle.std.proofs.lemmas.Option.{get_or_from_slice_get, slice_get_within}
use Rattle.pf_cdb.proofs.SearchLaws.{get_table, get_tried, length_table, length_tried}
use Rattle.pf_cdb.specs.Hash.{hash_of}
use Rattle.pf_cdb.specs.Held.{empty, has_key, held, is_used, reached, tried, value_span}
use Rattle.pf_cdb.specs.Layout.{key_length, slot_of, slots_in, table_of, value_length}
use Rattle.pf_cdb.specs.Sound.{IsSound}
use Rattle.pf_cdb.specs.declared.layout.Slot.{Slot}

-- what is found is somewhere and passes
pub find_there : {X : Type 0} (p : X → Bool) (xs : List X) (x : X) → find p xs ≡ Some x → (k : ℕ) × (k < length xs) × (get_or xs k x ≡ x) × (p x ≡ true)
find_there p xs x h =
    let e = sym (find_at p xs) ∙ h in
    let within = slice_get_within xs (position_or_len p xs) x e in
    let at = get_or_from_slice_get xs (position_or_len p xs) x x e in
    (position_or_len p xs, within, at, sym (ap p at) ∙ passes_at_first p xs x within)

pub map_some : {X Y : Type 0} (f : X → Y) (o : Option X) (y : Y) → option_map f o ≡ Some y → (x : X) × (o ≡ Some x) × (f x ≡ y)
map_some f None y h = absurd (cc)
map_some f (Some x) y h = (x, refl, cc)

-- what is in the prefix of used slots is there, and is used
pub used_prefix : (slots : List Slot) (k : ℕ) (d : Slot) → k < length (take_while is_used slots)
    → (k < length slots) × (get_or (take_while is_used slots) k d ≡ get_or slots k d) × (is_used (get_or slots k d) ≡ true)
used_prefix slots k d h =
    let low : k < prefix_len is_used slots = omega (arith, length-take (prefix_len is_used slots) slots) in
    let within : k < length slots = omega (arith, length-take (prefix_len is_used slots) slots) in
    (within, get_or-take (prefix_len is_used slots) slots k d low, prefix_len_passes is_used slots k d low)

pub used_not : (slot : Slot) → is_used slot ≡ true → slot.at ≢ 0
used_not slot used e = true≢false (sym used ∙ ap not (eq-eqb slot.at 0 e))

-- a slot of the key's table that names the record and has the key
pub record IsThere (file key : List ℕ) (at : ℕ) : Type 0 where
  pub i : ℕ
  pub within : i < slots_in file (hash_of key % 256)
  pub names : (slot_of file (hash_of key % 256) i).at ≡ at
  pub used : (slot_of file (hash_of key % 256) i).at ≢ 0
  pub has : has_key file key (slot_of file (hash_of key % 256) i) ≡ true

pub is_there : (file key : List ℕ) (at : ℕ) → held file key ≡ Some at → IsThere file key at
unfolding held
is_there file key at h =
    let table = hash_of key % 256 in
    let slots = table_of file table in
    let (slot, found, place) = map_some (λ s. s.at) (find (has_key file key) (reached slots (hash_of key))) at h in
    let (k, short, same, passes) = find_there (has_key file key) (reached slots (hash_of key)) slot found in
    let (low, here, used) = used_prefix (tried slots (hash_of key)) k slot short in
    let below : k < slots_in file table = omega (arith, length_tried slots (hash_of key), length_table file table) in
    let step : k < length slots = omega (arith, length_table file table) in
    let i = (hash_of key / 256 + k) % slots_in file table in
    let inside : i < slots_in file table = mod_below _ _ (omega arith) in
    let is : slot ≡ slot_of file table i =
    sym same ∙ here ∙ get_tried slots (hash_of key) k slot step
    ∙ ap (λ n. get_or slots ((hash_of key / 256 + k) % n) empty) (length_table file table) ∙ get_table file table i empty inside in
    let uses : is_used slot ≡ true = ap is_used (sym same ∙ here) ∙ used in
    record {
      i = i;
      within = inside;
      names = ap (λ s. s.at) (sym is) ∙ place;
      used = used_not (slot_of file table i) (ap is_used (sym is) ∙ uses);
      has = ap (has_key file key) (sym is) ∙ passes;
    }

-- a record lies within the file, after the header
pub record LiesIn (file : List ℕ) (at : ℕ) : Type 0 where
  pub prefix : 2048 ≤ at
  pub whole : at + 8 + key_length file at + value_length file at ≤ length file

pub held_lies : (file key : List ℕ) (at : ℕ) → IsSound file → held file key ≡ Some at → LiesIn file at
held_lies file key at sound h =
    let there = is_there file key at h in
    let table : hash_of key % 256 < 256 = mod_below (hash_of key) 256 (omega arith) in
    record {
      prefix = rw there.names at (sound.slots (hash_of key % 256) there.i table there.within there.used).0;
      whole = rw there.names at (sound.records (hash_of key % 256) there.i table there.within there.used);
    }

pub span_within : (file : List ℕ) (at : ℕ) → LiesIn file at → ((value_span file at).start ≤ (value_span file at).end) × ((value_span file at).end ≤ length file)
span_within file at lies = (omega arith, omega (arith, lies.whole))
