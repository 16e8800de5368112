use Rattle.std.proofs.Common.{◌≡◌, ◌≤◌, ◌+◌, ◌*◌, drop, length}
use Rattle.std.specs.Option.{option_map}
use Rattle.pf_maps.specs.Meanings.{firsts, joined, meanings_of, pipe_value, union_value}
use Rattle.pf_maps.proofs.walk.+finding.Given as goal

abbrev pub decreases-find_table : goal.decreases-find_table
decreases-find_table l = 3 * length l.nodes.now

abbrev pub decreases-find_at : goal.decreases-find_at
decreases-find_at l = 3 * length l.nodes.now + 1

abbrev pub decreases-find_union : goal.decreases-find_union
decreases-find_union l = 3 * length l.nodes.now + 2

abbrev pub decreases-find_pipe : goal.decreases-find_pipe
decreases-find_pipe l = 3 * length l.nodes.now + 2

abbrev pub invariant-find_union-members : goal.invariant-find_union-members
invariant-find_union-members l =
    (option_map (joined l.found) (union_value (firsts l.more (meanings_of (drop l.place l.nodes))) l.key) ≡ union_value (firsts l.count (meanings_of l.nodes)) l.key)
    × ((l.nodes ≡ l.initial.nodes) × (l.place ≤ length l.nodes))

abbrev pub decreases-find_union-members : goal.decreases-find_union-members
decreases-find_union-members l = l.more

abbrev pub invariant-find_pipe-members : goal.invariant-find_pipe-members
invariant-find_pipe-members l =
    (pipe_value (firsts l.more (meanings_of (drop l.place l.nodes))) l.value ≡ pipe_value (firsts l.count (meanings_of l.nodes)) l.key)
    × ((l.nodes ≡ l.initial.nodes) × (l.place ≤ length l.nodes))

abbrev pub decreases-find_pipe-members : goal.decreases-find_pipe-members
decreases-find_pipe-members l = l.more
