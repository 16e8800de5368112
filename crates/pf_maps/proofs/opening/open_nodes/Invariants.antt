use Rattle.std.proofs.Common.{drop}
use Rattle.pf_maps.proofs.TurnLaws.{OpensUpTo}
use Rattle.pf_maps.specs.Opening.{nodes_opened}
use Rattle.pf_maps.proofs.opening.open_nodes.Given as goal

abbrev pub invariant-loop-node : goal.invariant-loop-node
invariant-loop-node g l =
    OpensUpTo (g.F.Files.known l.initial.files) (g.F.Files.known l.files) l.initial.patterns l.patterns (λ event all. nodes_opened event all l.place l.folded l.nodes)
    (λ event all. nodes_opened event all l.place l.folded (drop l.node-index l.nodes)) l.opened
