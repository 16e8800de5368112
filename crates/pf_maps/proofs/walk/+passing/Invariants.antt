use Rattle.std.proofs.Common.{◌≡◌, ◌≤◌, ◌+◌, ◌-◌, ◌*◌, drop, length}
use Rattle.pf_maps.specs.Meanings.{meanings_of}
use Rattle.pf_maps.proofs.walk.+passing.Given as goal

abbrev pub decreases-behind_table : goal.decreases-behind_table
decreases-behind_table l = 2 * length l.nodes.now

abbrev pub decreases-behind_tables : goal.decreases-behind_tables
decreases-behind_tables l = 2 * length l.nodes.now + 1

abbrev pub invariant-behind_tables-tables : goal.invariant-behind_tables-tables
invariant-behind_tables-tables l =
    (drop l.more (meanings_of l.left) ≡ drop l.count (meanings_of l.nodes))
    × ((length l.left ≤ length l.nodes) × (l.left ≡ drop (length l.nodes - length l.left) l.nodes))

abbrev pub decreases-behind_tables-tables : goal.decreases-behind_tables-tables
decreases-behind_tables-tables l = l.more
