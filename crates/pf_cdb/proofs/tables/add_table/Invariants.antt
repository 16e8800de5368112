use Rattle.std.proofs.Common.{◌≡◌, ◌++◌, take}
use Rattle.pf_cdb.specs.Written.{table_bytes}
use Rattle.pf_cdb.proofs.tables.add_table.Given as goal

abbrev pub invariant-loop-slot : goal.invariant-loop-slot
invariant-loop-slot l = l.file ≡ l.fn.file ++ table_bytes (take l.slot-index l.slots)
