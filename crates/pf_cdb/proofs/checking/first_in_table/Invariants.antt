use Rattle.std.proofs.Common.{◌≡◌, None}
use Rattle.pf_cdb.specs.Damaged.{first_below, slot_damage}
use Rattle.pf_cdb.proofs.checking.first_in_table.Given as goal

abbrev pub invariant-loop-i : goal.invariant-loop-i
invariant-loop-i l = first_below l.i (slot_damage l.kind l.file l.table) ≡ None
