use Rattle.std.proofs.Common.{◌≡◌, take}
use Rattle.pf_table.proofs.pairs.Pairs.list.Given as goal

abbrev pub invariant-loop-i : goal.invariant-loop-i
invariant-loop-i l = l.pairs ≡ take l.i l.self
