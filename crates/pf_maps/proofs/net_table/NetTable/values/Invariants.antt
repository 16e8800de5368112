use Rattle.std.proofs.Common.{◌≡◌, take, length}
use Rattle.pf_maps.proofs.net_table.NetTable.values.Given as goal

abbrev pub invariant-loop-rule : goal.invariant-loop-rule
invariant-loop-rule l = (l.values ≡ take l.rule l.self.results) × (l.rule-end ≡ length l.self.results)
