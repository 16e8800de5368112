use Rattle.std.proofs.Common.{◌≡◌, take}
use Rattle.pf_tools.specs.Map.Lines.{pair_lines}
use Rattle.pf_tools.proofs.map.lines.pair_lines.Given as goal

abbrev pub invariant-loop-pair : goal.invariant-loop-pair
invariant-loop-pair l = l.lines ≡ pair_lines (take l.pair-index l.pairs)
