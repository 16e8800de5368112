-- The bytes of the file that is written for some pairs (D. J. Bernstein, A structure for constant databases; cdb(5)). The order of the records,
-- the size of a table, where an empty table would be and the greatest size follow the tool cdb of tinycdb; the last is postgate's own.
use Rattle.std.specs.Prelude.{ℕ, ◌+◌, ◌*◌, ◌/◌, ◌%◌, ◌==◌, ◌≢◌, Bool, not, nat_lt, List, [], ◌∷◌, ◌++◌, length, map, replicate, slice_set, AllPairs, flat_map, filter, fold, sum_by, bytes_eq, Result, Ok, Err, if◌then◌else◌}
use Rattle.std.specs.Int.{to_le_bytes, w32}
use Rattle.std.specs.List.{prefix_len, range_with_len}
use Rattle.pf_base.specs.declared.pair.Pair.{Pair}
use Rattle.pf_cdb.specs.Hash.{hash_of}
use Rattle.pf_cdb.specs.Held.{empty, is_used, tried}
use Rattle.pf_cdb.specs.declared.layout.Slot.{Slot}
use Rattle.pf_cdb.specs.declared.fault.WriteFault.{WriteFault}
use Rattle.pf_cdb.specs.declared.fault.WriteFault.TheVariants.{TooLarge}

-- a number in four bytes, the least byte first
abbrev pub bytes_of : ℕ → List ℕ
bytes_of n = to_le_bytes w32 n

-- of some pairs, those that a file of them stands for: of each key the first, in their order
abbrev pub firsts : List Pair → List Pair
firsts [] = []
firsts (pair ∷ pairs) = pair ∷ filter (λ other. not (bytes_eq other.key pair.key)) (firsts pairs)

abbrev pub HasDistinctKeys : List Pair → Type 0
HasDistinctKeys entries = AllPairs (λ a b. a.key ≢ b.key) entries

abbrev pub record_size : Pair → ℕ
record_size pair = 8 + length pair.key + length pair.value

abbrev pub record_bytes : Pair → List ℕ
record_bytes pair = bytes_of (length pair.key) ++ (bytes_of (length pair.value) ++ (pair.key ++ pair.value))

-- the records stand one after the other, and each has a slot
abbrev pub placed : ℕ → List Pair → List Slot
placed at [] = []
placed at (pair ∷ pairs) = record { hash = hash_of pair.key; at = at } ∷ placed (at + record_size pair) pairs

-- a slot is put in the place of the first empty one that its hash tries
unfoldable pub put : List Slot → Slot → List Slot
put slots slot = slice_set slots ((slot.hash / 256 + prefix_len is_used (tried slots slot.hash)) % length slots) slot

-- a table has twice as many slots as records, and these are put in their order
unfoldable pub filled : List Slot → List Slot
filled slots = fold put (replicate (2 * length slots) empty) slots

-- the slots of each table
abbrev pub is_of_table : ℕ → Slot → Bool
is_of_table table slot = slot.hash % 256 == table

abbrev pub of_table : List Slot → ℕ → List Slot
of_table slots table = filter (is_of_table table) slots

unfoldable pub by_table : List Slot → List (List Slot)
by_table slots = map (of_table slots) (range_with_len 0 256)

-- the tables of the file
abbrev pub tables_of : List Pair → List (List Slot)
tables_of entries = map filled (by_table (placed 2048 entries))

abbrev pub slot_bytes : Slot → List ℕ
slot_bytes slot = bytes_of slot.hash ++ bytes_of slot.at

abbrev pub table_bytes : List Slot → List ℕ
table_bytes slots = flat_map slot_bytes slots

-- of each table in turn its place and its length; an empty one has the place where it would be
abbrev pub header_bytes : ℕ → List (List Slot) → List ℕ
header_bytes at [] = []
header_bytes at (table ∷ tables) = bytes_of at ++ (bytes_of (length table) ++ header_bytes (at + 8 * length table) tables)

abbrev pub tables_size : List (List Slot) → ℕ
tables_size tables = sum_by (λ table. 8 * length table) tables

abbrev pub records_end : List Pair → ℕ
records_end entries = 2048 + sum_by record_size entries

-- the header, the records and the tables
unfoldable pub written : List Pair → List ℕ
written entries = header_bytes (records_end entries) (tables_of entries)
    ++ (flat_map record_bytes entries ++ flat_map table_bytes (tables_of entries))

-- the file, unless it would have more bytes than a file may have
abbrev pub written_file : List Pair → Result (List ℕ) WriteFault
written_file entries = if nat_lt 67108864 (length (written entries)) then Err TooLarge else Ok (written entries)
