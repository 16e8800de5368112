-- A file that is written is sound, and stands for the pairs that it was written for.
use Rattle.std.proofs.Common.{◌≡◌, ◌≢◌, ◌%◌, ◌<◌, ℕ, true, List, [], length, get_or, refl, ap, ◌∙◌, sym, subst, arith}
use Rattle.std.specs.List.{All, find}
use Rattle.std.specs.Prelude.{◌==◌}
use Rattle.std.specs.Option.{option_map}
use Rattle.std.specs.Str.{bytes_eq}
use Rattle.std.proofs.lemmas.Bool.{and_from, and_parts, eq-eqb, eqb-true}
use Rattle.std.proofs.lemmas.List.Elements.{All-filter, All-weaker, filter_passes}
use Rattle.std.proofs.lemmas.Nat.{mod_below}
use Rattle.pf_base.specs.declared.pair.Pair.{Pair}
use Rattle.pf_cdb.proofs.FileLaws.{length_written}
use Rattle.pf_cdb.proofs.PairLaws.{pair_of_key}
use Rattle.pf_cdb.proofs.ReachLaws.{All-filled}
use Rattle.pf_cdb.proofs.RecordLaws.{IsPlaced, RecordsStand, all_placed, pairs_found}
use Rattle.pf_cdb.proofs.RoundLaws.{found_filled}
use Rattle.pf_cdb.proofs.SearchLaws.{used_is}
use Rattle.pf_cdb.proofs.SettledLaws.{find_filter}
use Rattle.pf_cdb.proofs.WrittenLaws.{Fits, IsLow, get_tables, place_fits, records_stand, slot_is, slots_in_is, table_at_is, table_of_is}
use Rattle.pf_cdb.specs.Hash.{hash_of}
use Rattle.pf_cdb.specs.Held.{elements_of, empty, has_key, held, is_used, reached}
use Rattle.pf_cdb.specs.Layout.{key_at, pair_at, slot_of, slots_in, table_of}
use Rattle.pf_cdb.specs.Sound.{IsSound}
use Rattle.pf_cdb.specs.Written.{filled, is_of_table, of_table, placed, tables_of, written}
use Rattle.pf_cdb.specs.declared.layout.Slot.{Slot}

-- the records of the file
pub records_written : (entries : List Pair) → Fits entries → RecordsStand (written entries) 2048 entries
records_written entries fits = record {
  prefix = omega arith;
  whole = omega (arith, length_written entries);
  fits = fits;
  stand = records_stand entries;
}

pub placed_written : (entries : List Pair) → Fits entries → All (IsPlaced (written entries)) (placed 2048 entries)
placed_written entries fits = all_placed (written entries) 2048 entries (records_written entries fits)

of_table_placed : (entries : List Pair) (table : ℕ) → Fits entries → All (IsPlaced (written entries)) (of_table (placed 2048 entries) table)
of_table_placed entries table fits = All-filter (is_of_table table) (IsPlaced (written entries)) (placed 2048 entries) (placed_written entries fits)

-- the hashes and places of a table fit into four bytes
low_filled : (entries : List Pair) (table : ℕ) → Fits entries → All IsLow (filled (of_table (placed 2048 entries) table))
low_filled entries table fits =
    All-filled IsLow (of_table (placed 2048 entries) table) (omega arith, omega arith)
    (All-weaker (IsPlaced (written entries)) IsLow (λ slot is. (is.low, omega (arith, is.whole, fits)))
    (of_table (placed 2048 entries) table) (of_table_placed entries table fits))

pub low_tables : (entries : List Pair) (table : ℕ) → Fits entries → table < 256 → All IsLow (get_or (tables_of entries) table [])
low_tables entries table fits low = subst (All IsLow) (sym (get_tables entries table low)) (low_filled entries table fits)

-- what is read of a table are the slots of its records
pub table_written : (entries : List Pair) (table : ℕ) → Fits entries → table < 256 → table_of (written entries) table ≡ filled (of_table (placed 2048 entries) table)
table_written entries table fits low = table_of_is entries table fits low (low_tables entries table fits low) ∙ get_tables entries table low

-- a used slot of a table
pub record IsRight (file : List ℕ) (table : ℕ) (slot : Slot) : Type 0 where
  pub placed : IsPlaced file slot
  pub of_table : slot.hash % 256 ≡ table

abbrev UsedRight : List ℕ → ℕ → Slot → Type 0
UsedRight file table slot = slot.at ≢ 0 → IsRight file table slot

right_filled : (entries : List Pair) (table : ℕ) → Fits entries → All (UsedRight (written entries) table) (filled (of_table (placed 2048 entries) table))
right_filled entries table fits =
    All-filled (UsedRight (written entries) table) (of_table (placed 2048 entries) table) (λ used. absurd (used refl))
    (λ k d low used.
    record {
      placed = of_table_placed entries table fits k d low;
      of_table = eqb-true _ table (filter_passes (is_of_table table) (placed 2048 entries) k d low);
    })

right_slot : (entries : List Pair) (table i : ℕ) → Fits entries → table < 256 → i < slots_in (written entries) table → (slot_of (written entries) table i).at ≢ 0
    → IsRight (written entries) table (slot_of (written entries) table i)
right_slot entries table i fits low within =
    let file = written entries in
    let inside : i < length (get_or (tables_of entries) table []) = omega (arith, slots_in_is entries table fits low) in
    let is = slot_is entries table i fits low inside (low_tables entries table fits low) in
    let all = subst (All (UsedRight file table)) (sym (get_tables entries table low)) (right_filled entries table fits) in
    subst (UsedRight file table) (sym is) (all i empty inside)

pub sound_written : (entries : List Pair) → Fits entries → IsSound (written entries)
sound_written entries fits = record {
  header = omega (arith, length_written entries);
  tables = λ table low some.
      omega (arith, table_at_is entries table fits low, slots_in_is entries table fits low, place_fits entries table low);
  slots = λ table i low within used.
      let right = right_slot entries table i fits low within used in
      (right.placed.prefix, omega (arith, right.placed.whole));
  records = λ table i low within used. (right_slot entries table i fits low within used).placed.whole;
  hashes = λ table i low within used.
      let right = right_slot entries table i fits low within used in
      (right.placed.hash, ap (λ n. n % 256) right.placed.hash ∙ right.of_table);
}

-- what is held for a key is the first record with the key
all_placed_used : (file : List ℕ) (slots : List Slot) → All (IsPlaced file) slots → All (λ s. is_used s ≡ true) slots
all_placed_used file slots all = All-weaker (IsPlaced file) (λ s. is_used s ≡ true) (λ s is. used_is s (omega (arith, is.prefix))) slots all

hash_same : (file key : List ℕ) (slot : Slot) → has_key file key slot ≡ true → slot.hash ≡ hash_of key
hash_same file key slot has = eqb-true slot.hash (hash_of key) (and_parts (slot.hash == hash_of key) (bytes_eq (key_at file slot.at) key) has).0

pub held_written : (entries : List Pair) (key : List ℕ) → Fits entries
    → held (written entries) key ≡ option_map (λ slot. slot.at) (find (has_key (written entries) key) (placed 2048 entries))
unfolding held
held_written entries key fits =
    let file = written entries in
    let hash = hash_of key in
    let table = hash % 256 in
    let slots = of_table (placed 2048 entries) table in
    let low : table < 256 = mod_below hash 256 (omega arith) in
    ap (λ l. option_map (λ slot. slot.at) (find (has_key file key) (reached l hash))) (table_written entries table fits low)
    ∙ ap (option_map (λ slot. slot.at))
    (found_filled slots hash (has_key file key) (all_placed_used file slots (of_table_placed entries table fits))
    (λ s used has. and_from (is_used s) (s.hash == hash) used (eq-eqb s.hash hash (hash_same file key s has)))
    ∙ find_filter (has_key file key) (is_of_table table) (placed 2048 entries)
    (λ k d within has.
    let slot = get_or (placed 2048 entries) k d in
    eq-eqb (slot.hash % 256) table (ap (λ n. n % 256) (hash_same file key slot has))))

-- each key has the value of its first pair
pub found_written : (entries : List Pair) (key : List ℕ) → Fits entries
    → find (λ pair. bytes_eq pair.key key) (elements_of (written entries)) ≡ find (λ pair. bytes_eq pair.key key) entries
found_written entries key fits =
    pair_of_key (written entries) key (sound_written entries fits)
    ∙ ap (option_map (pair_at (written entries))) (held_written entries key fits)
    ∙ pairs_found (written entries) key 2048 entries (records_written entries fits)
