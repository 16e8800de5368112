-- What of a file can be read while a kind of damage is looked for: words of the code's contracts.
use Rattle.std.specs.Prelude.{ℕ, ◌<◌, ◌≤◌, ◌≡◌, ◌||◌, Bool, false, List, length, ⊤}
use Rattle.pf_cdb.specs.Damaged.{is_hash_wrong, is_record_out, is_slot_out}
use Rattle.pf_cdb.specs.Layout.{slot_of, slots_in}
use Rattle.pf_cdb.specs.Sound.{RecordsLie, SlotsLie, TablesLie}
use Rattle.pf_cdb.specs.declared.damage.Kind.{Kind}
use Rattle.pf_cdb.specs.declared.damage.Kind.TheVariants.{Slots, Records, Hashes}
use Rattle.pf_cdb.specs.declared.layout.Slot.{Slot}

-- the header and the tables
pub record HasTables (file : List ℕ) : Type 0 where
  pub header : 2048 ≤ length file
  pub tables : TablesLie file

-- and what the kinds before this one were looked for in
abbrev pub IsReadable : Kind → List ℕ → Type 0
IsReadable Slots file = ⊤
IsReadable Records file = SlotsLie file
IsReadable Hashes file = SlotsLie file × RecordsLie file

-- a slot of a table is damaged, in whatever kind
unfoldable pub is_damaged : List ℕ → ℕ → Slot → Bool
is_damaged file table slot = is_slot_out file slot || (is_record_out file slot || is_hash_wrong file table slot)

-- no slot of a table is
abbrev pub IsTableWhole : List ℕ → ℕ → Type 0
IsTableWhole file table = (i : ℕ) → i < slots_in file table → is_damaged file table (slot_of file table i) ≡ false
