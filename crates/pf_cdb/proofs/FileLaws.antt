-- The parts of a file that is written: their sizes, and one more of each.
use Rattle.std.proofs.Common.{◌≡◌, ◌+◌, ◌*◌, ℕ, List, [], ◌∷◌, ◌++◌, length, refl, arith}
use Rattle.std.specs.List.{flat_map, sum_by}
use Rattle.std.proofs.lemmas.List.{length-append}
use Rattle.std.proofs.lemmas.List.Sums.{sum_by-cons}
use Rattle.pf_base.specs.declared.pair.Pair.{Pair}
use Rattle.pf_cdb.proofs.BucketLaws.{length_by_table}
use Rattle.pf_cdb.specs.Written.{by_table, filled, header_bytes, placed, record_bytes, record_size, records_end, slot_bytes, table_bytes, tables_of, tables_size, written}
use Rattle.pf_cdb.specs.declared.layout.Slot.{Slot}
use Rattle.std.proofs.lemmas.List.{length-map}

pub length_record : (pair : Pair) → length (record_bytes pair) ≡ record_size pair
length_record pair = omega (arith, length-append pair.key pair.value)

pub length_slot : (slot : Slot) → length (slot_bytes slot) ≡ 8
length_slot slot = refl

pub length_header : (at : ℕ) (tables : List (List Slot)) → length (header_bytes at tables) ≡ 8 * length tables
length_header at [] = refl
length_header at (table ∷ tables) = omega (arith, length_header (at + 8 * length table) tables)

pub length_records : (entries : List Pair) → length (flat_map record_bytes entries) ≡ sum_by record_size entries
length_records [] = refl
length_records (pair ∷ entries) =
    omega (arith, length-append (record_bytes pair) (flat_map record_bytes entries), length_record pair, length_records entries, sum_by-cons record_size pair entries)

pub length_table_bytes : (table : List Slot) → length (table_bytes table) ≡ 8 * length table
length_table_bytes [] = refl
length_table_bytes (slot ∷ table) = omega (arith, length_table_bytes table)

pub length_tables_bytes : (tables : List (List Slot)) → length (flat_map table_bytes tables) ≡ tables_size tables
length_tables_bytes [] = refl
length_tables_bytes (table ∷ tables) =
    omega (
      arith,
      length-append (table_bytes table) (flat_map table_bytes tables),
      length_table_bytes table,
      length_tables_bytes tables,
      sum_by-cons (λ t. 8 * length t) table tables,
    )

-- the size of the whole file
pub length_written : (entries : List Pair) → length (written entries) ≡ records_end entries + tables_size (tables_of entries)
unfolding written
length_written entries =
    let header = header_bytes (records_end entries) (tables_of entries) in
    let records = flat_map record_bytes entries in
    let tables = flat_map table_bytes (tables_of entries) in
    omega (
      arith,
      length-append header (records ++ tables),
      length-append records tables,
      length_header (records_end entries) (tables_of entries),
      length_records entries,
      length_tables_bytes (tables_of entries),
      length-map (by_table (placed 2048 entries)) filled,
      length_by_table (placed 2048 entries),
    )
