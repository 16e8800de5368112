-- What is wrong with a file that is no whole cdb file (cdb(5)). The kinds, and which of several is answered, are postgate's own.
use Rattle.std.specs.Prelude.{ℕ, zero, suc, ◌+◌, ◌*◌, ◌%◌, ◌==◌, ◌&&◌, ◌||◌, Bool, not, nat_lt, List, length, Option, Some, None, if◌then◌else◌}
use Rattle.std.specs.Option.{option_or}
use Rattle.pf_cdb.specs.Hash.{hash_of}
use Rattle.pf_cdb.specs.Held.{is_used}
use Rattle.pf_cdb.specs.Layout.{key_at, key_length, slot_of, slots_in, table_at, value_length}
use Rattle.pf_cdb.specs.declared.damage.Damage.{Damage}
use Rattle.pf_cdb.specs.declared.damage.Damage.TheVariants.{Header, TableRange, SlotRange, RecordRange, WrongHash}
use Rattle.pf_cdb.specs.declared.damage.Kind.{Kind}
use Rattle.pf_cdb.specs.declared.damage.Kind.TheVariants.{Slots, Records, Hashes}
use Rattle.pf_cdb.specs.declared.layout.Slot.{Slot}

-- what is said of the first number below n of which something is said
unfoldable pub first_below : {A : Type 0} → ℕ → (ℕ → Option A) → Option A
first_below zero says = None
first_below (suc n) says = option_or (first_below n says) (says n)

abbrev pub damage_if : Bool → Damage → Option Damage
damage_if test damage = if test then Some damage else None

-- the file is shorter than its header
abbrev pub is_short : List ℕ → Bool
is_short file = nat_lt (length file) 2048

-- the slots of a table end after the file
unfoldable pub is_table_out : List ℕ → ℕ → Bool
is_table_out file table = nat_lt 0 (slots_in file table) && nat_lt (length file) (table_at file table + 8 * slots_in file table)

-- a slot names a place in the header, or one whose two lengths end after the file
unfoldable pub is_slot_out : List ℕ → Slot → Bool
is_slot_out file slot = is_used slot && (nat_lt slot.at 2048 || nat_lt (length file) (slot.at + 8))

-- the key or the value of the record that a slot names ends after the file
unfoldable pub is_record_out : List ℕ → Slot → Bool
is_record_out file slot = is_used slot && nat_lt (length file) (slot.at + 8 + key_length file slot.at + value_length file slot.at)

-- the key of that record has another hash, or one of another table
unfoldable pub is_hash_wrong : List ℕ → ℕ → Slot → Bool
is_hash_wrong file table slot =
    let hash = hash_of (key_at file slot.at) in is_used slot && not ((hash == slot.hash) && (hash % 256 == table))

-- what is wrong with a table, and with a slot where one kind of damage is looked for
unfoldable pub table_damage : List ℕ → ℕ → Option Damage
table_damage file table = damage_if (is_table_out file table) (TableRange table)

unfoldable pub slot_damage : Kind → List ℕ → ℕ → ℕ → Option Damage
slot_damage Slots file table i = damage_if (is_slot_out file (slot_of file table i)) (SlotRange table i)
slot_damage Records file table i = damage_if (is_record_out file (slot_of file table i)) (RecordRange (slot_of file table i).at)
slot_damage Hashes file table i = damage_if (is_hash_wrong file table (slot_of file table i)) (WrongHash table i)

-- the first table, and the first slot of the tables in turn, that is damaged
unfoldable pub first_in_tables : List ℕ → Option Damage
first_in_tables file = first_below 256 (table_damage file)

unfoldable pub first_in_slots : Kind → List ℕ → Option Damage
first_in_slots kind file = first_below 256 (λ table. first_below (slots_in file table) (slot_damage kind file table))

-- what is wrong with the slots: each kind of damage is looked for in the whole file before the next
abbrev pub first_of_slots : List ℕ → Option Damage
first_of_slots file = option_or (first_in_slots Slots file) (option_or (first_in_slots Records file) (first_in_slots Hashes file))

-- what is wrong with a file
abbrev pub first_damage : List ℕ → Option Damage
first_damage file = option_or (damage_if (is_short file) Header) (option_or (first_in_tables file) (first_of_slots file))
