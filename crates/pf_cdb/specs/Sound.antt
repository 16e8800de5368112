-- What holds of a cdb file without damage, so that each place in it but that of an empty table lies within it (cdb(5)). That it is looked for is postgate's own.
use Rattle.std.specs.Prelude.{ℕ, ◌+◌, ◌*◌, ◌%◌, ◌<◌, ◌≤◌, ◌≡◌, ◌≢◌, List, length}
use Rattle.pf_cdb.specs.Hash.{hash_of}
use Rattle.pf_cdb.specs.Layout.{key_at, key_length, slot_of, slots_in, table_at, value_length}

-- the slots of each table lie within the file
abbrev pub TablesLie : List ℕ → Type 0
TablesLie file = (table : ℕ) → table < 256 → 0 < slots_in file table → table_at file table + 8 * slots_in file table ≤ length file

-- each slot that is not empty is so
abbrev pub EachUsed : List ℕ → (ℕ → ℕ → Type 0) → Type 0
EachUsed file P = (table i : ℕ) → table < 256 → i < slots_in file table → (slot_of file table i).at ≢ 0 → P table i

-- its record begins after the header, and the two lengths lie within the file
abbrev pub SlotsLie : List ℕ → Type 0
SlotsLie file = EachUsed file (λ table i. let at = (slot_of file table i).at in (2048 ≤ at) × (at + 8 ≤ length file))

-- the key and the value lie within the file
abbrev pub RecordsLie : List ℕ → Type 0
RecordsLie file = EachUsed file (λ table i. let at = (slot_of file table i).at in at + 8 + key_length file at + value_length file at ≤ length file)

-- the slot holds the hash of the key, and its table is that of the hash
abbrev pub HashesMatch : List ℕ → Type 0
HashesMatch file = EachUsed file (λ table i.
    let hash = hash_of (key_at file (slot_of file table i).at) in (hash ≡ (slot_of file table i).hash) × (hash % 256 ≡ table))

pub record IsSound (file : List ℕ) : Type 0 where
  pub header : 2048 ≤ length file
  pub tables : TablesLie file
  pub slots : SlotsLie file
  pub records : RecordsLie file
  pub hashes : HashesMatch file
