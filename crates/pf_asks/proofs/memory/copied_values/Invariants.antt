use Rattle.std.proofs.Common.{◌≡◌, ◌++◌, drop}
use Rattle.pf_asks.proofs.memory.copied_values.Given as goal

abbrev pub invariant-loop-value : goal.invariant-loop-value
invariant-loop-value l = l.values ≡ l.copy ++ drop l.value-index l.values
