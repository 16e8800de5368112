-- A file of which nothing is said is sound, and of a sound file nothing is said.
use Rattle.std.proofs.Common.{◌≡◌, ◌≢◌, ◌+◌, ◌*◌, ◌%◌, ◌<◌, ◌≤◌, ℕ, Bool, true, false, not, List, None, length, refl, ap, arith, ⊎_elim}
use Rattle.std.specs.Prelude.{◌&&◌, ◌||◌, nat_lt}
use Rattle.std.proofs.lemmas.Bool.{and_cases, and_from, and_left, and_parts, and_right, cases_eq, cases_lt, eq-eqb, eqb-true, le-ltb, ltb-false, not-false, not_from_true, or_from, or_parts, false≢true}
use Rattle.pf_cdb.proofs.FirstLemmas.{none_below, none_from}
use Rattle.pf_cdb.proofs.SearchLaws.{used_is}
use Rattle.pf_cdb.specs.Clauses.Readable.{HasTables, IsTableWhole, is_damaged}
use Rattle.pf_cdb.specs.Damaged.{damage_if, first_damage, first_in_slots, first_in_tables, is_hash_wrong, is_record_out, is_short, is_slot_out, is_table_out, slot_damage, table_damage}
use Rattle.pf_cdb.specs.Hash.{hash_of}
use Rattle.pf_cdb.specs.Held.{is_used}
use Rattle.pf_cdb.specs.Layout.{key_at, key_length, slot_of, slots_in, table_at, value_length}
use Rattle.pf_cdb.specs.Sound.{HashesMatch, IsSound, RecordsLie, SlotsLie, TablesLie}
use Rattle.pf_cdb.specs.declared.damage.Damage.{Damage}
use Rattle.pf_cdb.specs.declared.damage.Damage.TheVariants.{Header, TableRange, SlotRange, RecordRange, WrongHash}
use Rattle.pf_cdb.specs.declared.damage.Kind.{Kind}
use Rattle.pf_cdb.specs.declared.damage.Kind.TheVariants.{Slots, Records, Hashes}
use Rattle.pf_cdb.specs.declared.layout.Slot.{Slot}

-- no damage where the test fails, and there alone
no_damage : (test : Bool) (damage : Damage) → damage_if test damage ≡ None → test ≡ false
no_damage false damage e = refl
no_damage true damage e = absurd (cc)

undamaged : (test : Bool) (damage : Damage) → test ≡ false → damage_if test damage ≡ None
undamaged test damage e = rw e refl

second : (a b : Bool) → a ≡ true → (a && b) ≡ false → b ≡ false
second true b e f = f
second false b e f = absurd (false≢true e)

pub tables_lie : (file : List ℕ) → first_in_tables file ≡ None → TablesLie file
unfolding first_in_tables table_damage is_table_out
tables_lie file none table low some =
    let out = no_damage (is_table_out file table) (TableRange table) (none_below 256 (table_damage file) none table low) in
    ⊎_elim {A = nat_lt 0 (slots_in file table) ≡ false} {B = nat_lt (length file) (table_at file table + 8 * slots_in file table) ≡ false}
    (λ e. absurd (omega (arith, ltb-false 0 (slots_in file table) e)))
    (λ e. ltb-false (length file) (table_at file table + 8 * slots_in file table) e)
    (and_cases _ _ out)

none_in_table : (kind : Kind) (file : List ℕ) → first_in_slots kind file ≡ None → (table i : ℕ) → table < 256 → i < slots_in file table
    → slot_damage kind file table i ≡ None
unfolding first_in_slots
none_in_table kind file none table i low within = none_below (slots_in file table) (slot_damage kind file table) (none_below 256 _ none table low) i within

-- a slot that is used, without one kind of damage
pub slot_lies : (file : List ℕ) (slot : Slot) → is_slot_out file slot ≡ false → slot.at ≢ 0 → (2048 ≤ slot.at) × (slot.at + 8 ≤ length file)
unfolding is_slot_out
slot_lies file slot out used =
    let (header, end) = or_parts _ _ (second (is_used slot) _ (used_is slot used) out) in
    (ltb-false slot.at 2048 header, ltb-false (length file) (slot.at + 8) end)

pub record_lies : (file : List ℕ) (slot : Slot) → is_record_out file slot ≡ false → slot.at ≢ 0
    → slot.at + 8 + key_length file slot.at + value_length file slot.at ≤ length file
unfolding is_record_out
record_lies file slot out used = ltb-false (length file) _ (second (is_used slot) _ (used_is slot used) out)

hash_matches : (file : List ℕ) (table : ℕ) (slot : Slot) → is_hash_wrong file table slot ≡ false → slot.at ≢ 0
    → (hash_of (key_at file slot.at) ≡ slot.hash) × (hash_of (key_at file slot.at) % 256 ≡ table)
unfolding is_hash_wrong
hash_matches file table slot wrong used =
    let (hash, of_table) = and_parts _ _ (not-false _ (second (is_used slot) _ (used_is slot used) wrong)) in
    (eqb-true (hash_of (key_at file slot.at)) slot.hash hash, eqb-true (hash_of (key_at file slot.at) % 256) table of_table)

pub slots_lie : (file : List ℕ) → first_in_slots Slots file ≡ None → SlotsLie file
unfolding slot_damage
slots_lie file none table i low within used =
    let slot = slot_of file table i in
    slot_lies file slot (no_damage (is_slot_out file slot) (SlotRange table i) (none_in_table Slots file none table i low within)) used

pub records_lie : (file : List ℕ) → first_in_slots Records file ≡ None → RecordsLie file
unfolding slot_damage
records_lie file none table i low within used =
    let slot = slot_of file table i in
    record_lies file slot (no_damage (is_record_out file slot) (RecordRange slot.at) (none_in_table Records file none table i low within)) used

hashes_match : (file : List ℕ) → first_in_slots Hashes file ≡ None → HashesMatch file
unfolding slot_damage
hashes_match file none table i low within used =
    let slot = slot_of file table i in
    hash_matches file table slot (no_damage (is_hash_wrong file table slot) (WrongHash table i) (none_in_table Hashes file none table i low within)) used

pub is_sound : (file : List ℕ) → HasTables file → first_in_slots Slots file ≡ None → first_in_slots Records file ≡ None
    → first_in_slots Hashes file ≡ None → IsSound file
is_sound file has slots records hashes = record {
  header = has.header;
  tables = has.tables;
  slots = slots_lie file slots;
  records = records_lie file records;
  hashes = hashes_match file hashes;
}

-- the same, where each slot was looked at once
none_of_three : (file : List ℕ) (table : ℕ) (slot : Slot) → is_damaged file table slot ≡ false
    → (is_slot_out file slot ≡ false) × ((is_record_out file slot ≡ false) × (is_hash_wrong file table slot ≡ false))
unfolding is_damaged
none_of_three file table slot none =
    let (out, rest) = or_parts (is_slot_out file slot) (is_record_out file slot || is_hash_wrong file table slot) none in
    (out, or_parts (is_record_out file slot) (is_hash_wrong file table slot) rest)

pub is_whole : (file : List ℕ) → HasTables file → ((table : ℕ) → table < 256 → IsTableWhole file table) → IsSound file
is_whole file has whole = record {
  header = has.header;
  tables = has.tables;
  slots = λ table i low within used.
      slot_lies file (slot_of file table i) (none_of_three file table (slot_of file table i) (whole table low i within)).0 used;
  records = λ table i low within used.
      record_lies file (slot_of file table i) (none_of_three file table (slot_of file table i) (whole table low i within)).1.0 used;
  hashes = λ table i low within used.
      hash_matches file table (slot_of file table i) (none_of_three file table (slot_of file table i) (whole table low i within)).1.1 used;
}

-- the other way
no_table_out : (file : List ℕ) → TablesLie file → first_in_tables file ≡ None
unfolding first_in_tables table_damage is_table_out
no_table_out file lie = none_from 256 (table_damage file) (λ table low.
    undamaged (is_table_out file table) (TableRange table)
    (⊎_elim {A = 0 < slots_in file table} {B = slots_in file table ≤ 0}
    (λ some. and_right (nat_lt 0 (slots_in file table)) _ (le-ltb (length file) (table_at file table + 8 * slots_in file table) (lie table low some)))
    (λ none. and_left (nat_lt 0 (slots_in file table)) _ (le-ltb 0 (slots_in file table) none))
    (cases_lt 0 (slots_in file table))))

not_used : (slot : Slot) → slot.at ≡ 0 → is_used slot ≡ false
not_used slot e = ap not (eq-eqb slot.at 0 e)

-- a test that begins with 'used' fails where the rest fails for used slots
unless_used : (slot : Slot) (rest : Bool) → (slot.at ≢ 0 → rest ≡ false) → (is_used slot && rest) ≡ false
unless_used slot rest fails =
    ⊎_elim {A = slot.at ≡ 0} {B = slot.at ≢ 0}
    (λ e. and_left (is_used slot) rest (not_used slot e))
    (λ used. and_right (is_used slot) rest (fails used))
    (cases_eq slot.at 0)

none_in_slots : (kind : Kind) (file : List ℕ) → ((table i : ℕ) → table < 256 → i < slots_in file table → slot_damage kind file table i ≡ None)
    → first_in_slots kind file ≡ None
unfolding first_in_slots
none_in_slots kind file none =
    none_from 256 _ (λ table low. none_from (slots_in file table) (slot_damage kind file table) (λ i within. none table i low within))

no_slot_out : (file : List ℕ) → SlotsLie file → first_in_slots Slots file ≡ None
unfolding slot_damage is_slot_out
no_slot_out file lie = none_in_slots Slots file (λ table i low within.
    let slot = slot_of file table i in
    undamaged (is_slot_out file slot) (SlotRange table i) (unless_used slot _ (λ used.
    let (prefix, end) = lie table i low within used in
    or_from (nat_lt slot.at 2048) (nat_lt (length file) (slot.at + 8)) (le-ltb slot.at 2048 prefix) (le-ltb (length file) (slot.at + 8) end))))

no_record_out : (file : List ℕ) → RecordsLie file → first_in_slots Records file ≡ None
unfolding slot_damage is_record_out
no_record_out file lie = none_in_slots Records file (λ table i low within.
    let slot = slot_of file table i in
    undamaged (is_record_out file slot) (RecordRange slot.at) (unless_used slot _ (λ used. le-ltb (length file) _ (lie table i low within used))))

no_hash_wrong : (file : List ℕ) → HashesMatch file → first_in_slots Hashes file ≡ None
unfolding slot_damage is_hash_wrong
no_hash_wrong file match = none_in_slots Hashes file (λ table i low within.
    let slot = slot_of file table i in
    undamaged (is_hash_wrong file table slot) (WrongHash table i) (unless_used slot _ (λ used.
    let (hash, of_table) = match table i low within used in
    not_from_true _ (and_from _ _ (eq-eqb (hash_of (key_at file slot.at)) slot.hash hash) (eq-eqb (hash_of (key_at file slot.at) % 256) table of_table)))))

pub none_from_sound : (file : List ℕ) → IsSound file → first_damage file ≡ None
none_from_sound file sound =
    rw (
      undamaged (is_short file) Header (le-ltb (length file) 2048 sound.header),
      no_table_out file sound.tables,
      no_slot_out file sound.slots,
      no_record_out file sound.records,
      no_hash_wrong file sound.hashes,
    ) refl
