use Rattle.std.proofs.Common.{◌≡◌, ◌≤◌, ◌+◌, ◌*◌, length}
use Rattle.pf_maps.specs.Meanings.{all_partial, firsts, meanings_of}
use Rattle.pf_maps.proofs.walk.+parts.Given as goal

abbrev pub decreases-has_partial_keys : goal.decreases-has_partial_keys
decreases-has_partial_keys l = 2 * length l.nodes.now

abbrev pub decreases-all_partial : goal.decreases-all_partial
decreases-all_partial l = 2 * length l.nodes.now + 1

abbrev pub invariant-all_partial-members : goal.invariant-all_partial-members
invariant-all_partial-members l =
    (all_partial (firsts l.more (meanings_of l.left)) ≡ all_partial (firsts l.count (meanings_of l.nodes))) × (length l.left ≤ length l.nodes)

abbrev pub decreases-all_partial-members : goal.decreases-all_partial-members
decreases-all_partial-members l = l.more
