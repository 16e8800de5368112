use Rattle.std.proofs.Common.{◌≡◌, replicate}
use Rattle.pf_cdb.proofs.writer.header_room.Given as goal

abbrev pub invariant-loop : goal.invariant-loop
invariant-loop l = l.file ≡ replicate l.counter 0
