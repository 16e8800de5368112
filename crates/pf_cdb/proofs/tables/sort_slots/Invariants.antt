use Rattle.std.proofs.Common.{◌≡◌, take}
use Rattle.pf_cdb.specs.Clauses.Gathered.{slot_lists}
use Rattle.pf_cdb.specs.Written.{by_table}
use Rattle.pf_cdb.proofs.tables.sort_slots.Given as goal

abbrev pub invariant-loop-slot : goal.invariant-loop-slot
invariant-loop-slot l = slot_lists l.buckets.items ≡ by_table (take l.slot-index l.slots)
