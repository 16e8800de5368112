use Rattle.std.proofs.Common.{◌≡◌, take}
use Rattle.pf_tools.proofs.map.build.with_pairs.Given as goal

abbrev pub invariant-loop-i : goal.invariant-loop-i
invariant-loop-i l = l.writer ≡ take l.i l.text.pairs
