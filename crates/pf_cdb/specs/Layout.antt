-- Where the parts of a cdb file are (D. J. Bernstein, A structure for constant databases; cdb(5)). Each definition says something of
-- any bytes and any place: after the end of a file its numbers are those of the bytes that there are.
use Rattle.std.specs.Prelude.{ℕ, ◌+◌, ◌*◌, List, map, take, drop}
use Rattle.std.specs.Int.{from_le_bytes, w32}
use Rattle.std.specs.List.{range_with_len}
use Rattle.pf_base.specs.declared.pair.Pair.{Pair}
use Rattle.pf_cdb.specs.declared.layout.Slot.{Slot}

-- the number in the four bytes at a place, the least byte first
unfoldable pub word : List ℕ → ℕ → ℕ
word file at = from_le_bytes w32 (take 4 (drop at file))

-- the header has a pair for each of the tables 0 to 255: where its slots are, and how many they are
abbrev pub table_at : List ℕ → ℕ → ℕ
table_at file table = word file (8 * table)

abbrev pub slots_in : List ℕ → ℕ → ℕ
slots_in file table = word file (8 * table + 4)

-- a slot holds a hash and the place of a record
abbrev pub slot_of : List ℕ → ℕ → ℕ → Slot
slot_of file table i = record {
  hash = word file (table_at file table + 8 * i);
  at = word file (table_at file table + 8 * i + 4);
}

-- the slots of a table
unfoldable pub table_of : List ℕ → ℕ → List Slot
table_of file table = map (slot_of file table) (range_with_len 0 (slots_in file table))

-- a record holds the length of its key, that of its value, the key and the value
abbrev pub key_length : List ℕ → ℕ → ℕ
key_length file at = word file at

abbrev pub value_length : List ℕ → ℕ → ℕ
value_length file at = word file (at + 4)

abbrev pub key_at : List ℕ → ℕ → List ℕ
key_at file at = take (key_length file at) (drop (at + 8) file)

abbrev pub value_at : List ℕ → ℕ → List ℕ
value_at file at = take (value_length file at) (drop (at + 8 + key_length file at) file)

-- the key and the value of a record
abbrev pub pair_at : List ℕ → ℕ → Pair
pair_at file at = record { key = key_at file at; value = value_at file at }
