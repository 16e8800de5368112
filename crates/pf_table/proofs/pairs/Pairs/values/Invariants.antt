use Rattle.std.proofs.Common.{◌≡◌, map, take}
use Rattle.pf_table.proofs.pairs.Pairs.values.Given as goal

abbrev pub invariant-loop-i : goal.invariant-loop-i
invariant-loop-i l = l.values ≡ take l.i (map (λ pair. pair.value) l.self)
