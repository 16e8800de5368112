-- What a writer gathers before it writes: words of the code's contracts.
use Rattle.std.specs.Prelude.{ℕ, ◌+◌, ◌/◌, ◌%◌, List, [], ◌∷◌, ◌++◌, length, map, slice_index_or, slice_set, Vec}
use Rattle.pf_cdb.specs.Held.{empty}
use Rattle.pf_cdb.specs.declared.layout.Slot.{Slot}

-- the slots of the tables, each of which has a vector
abbrev pub slot_lists : {A : Type 0} → List (Vec Slot A) → List (List Slot)
slot_lists vectors = map (λ v. v.items) vectors

-- one slot more, in the list of its table
abbrev pub with_slot : List (List Slot) → Slot → List (List Slot)
with_slot tables slot = slice_set tables (slot.hash % 256) (slice_index_or tables (slot.hash % 256) [] ++ slot ∷ [])

-- the slot that a hash tries at a step
abbrev pub step_slot : List Slot → ℕ → ℕ → Slot
step_slot slots hash step = slice_index_or slots ((hash / 256 + step) % length slots) empty
