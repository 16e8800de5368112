use Rattle.std.proofs.Common.{◌≡◌, take}
use Rattle.pf_cdb.proofs.writing.with_all.Given as goal

abbrev pub invariant-loop-pair : goal.invariant-loop-pair
invariant-loop-pair l = l.writer ≡ take l.pair-index l.entries
