use Rattle.std.proofs.Common.{◌≡◌, ◌++◌, drop, map}
use Rattle.pf_table.proofs.memory.values_in.Given as goal

abbrev pub invariant-loop-pair : goal.invariant-loop-pair
invariant-loop-pair l = map (λ pair. pair.value) l.pairs ≡ l.values ++ map (λ pair. pair.value) (drop l.pair-index l.pairs)
