use Rattle.std.proofs.Common.{◌≡◌, ◌+◌, ◌*◌, drop}
use Rattle.pf_maps.specs.Clauses.Adding.{behind}
use Rattle.pf_maps.specs.Specification.{members_nodes, nodes_of}
use Rattle.pf_maps.proofs.specification.+nodes.Given as goal

abbrev pub decreases-add_members : goal.decreases-add_members
decreases-add_members l = 3 * l.levels + 2

abbrev pub decreases-add_nodes : goal.decreases-add_nodes
decreases-add_nodes l = 3 * l.levels + 1

abbrev pub decreases-add_group : goal.decreases-add_group
decreases-add_group l = 3 * l.levels

abbrev pub invariant-add_members-loop-text : goal.invariant-add_members-loop-text
invariant-add_members-loop-text l =
    behind l.initial.nodes (members_nodes (nodes_of l.levels) l.texts) ≡ behind l.nodes (members_nodes (nodes_of l.levels) (drop l.text-index l.texts))
