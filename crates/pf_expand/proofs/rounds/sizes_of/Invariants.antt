use Rattle.std.proofs.Common.{◌≤◌, ◌-◌}
use Rattle.pf_expand.specs.Clauses.Levels.{AreSizes}
use Rattle.pf_expand.proofs.rounds.sizes_of.Given as goal

abbrev pub invariant-loop-sizes : goal.invariant-loop-sizes
invariant-loop-sizes l = AreSizes l.names l.sizes × (l.sizes.levels ≤ 100)

abbrev pub decreases-loop-sizes : goal.decreases-loop-sizes
decreases-loop-sizes l = 100 - l.sizes.levels
