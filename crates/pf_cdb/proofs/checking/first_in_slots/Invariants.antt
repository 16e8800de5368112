use Rattle.std.proofs.Common.{◌≡◌, None}
use Rattle.pf_cdb.specs.Damaged.{first_below, slot_damage}
use Rattle.pf_cdb.specs.Layout.{slots_in}
use Rattle.pf_cdb.proofs.checking.first_in_slots.Given as goal

abbrev pub invariant-loop-table : goal.invariant-loop-table
invariant-loop-table l = first_below l.table (λ table. first_below (slots_in l.file table) (slot_damage l.kind l.file table)) ≡ None
