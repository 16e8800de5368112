use Rattle.std.proofs.Common.{◌≡◌, ◌≤◌, ◌+◌, ◌*◌, ◌++◌, true, is_ok, drop}
use Rattle.pf_expand.specs.Clauses.Meanings.{level_value}
use Rattle.pf_expand.specs.Expansion.{content}
use Rattle.pf_expand.specs.Clauses.Runs.{run}
use Rattle.pf_expand.specs.Clauses.RunsMeant.{depth_of}
use Rattle.pf_expand.specs.declared.run.Mode.TheVariants.{Counts}
use Rattle.pf_expand.proofs.write.+write_name.Given as goal

abbrev pub decreases-write_name : goal.decreases-write_name
decreases-write_name l = 4 * l.levels

abbrev pub decreases-write_meaning : goal.decreases-write_meaning
decreases-write_meaning l = 4 * l.levels + 3

abbrev pub decreases-write_domain : goal.decreases-write_domain
decreases-write_domain l = 4 * l.levels + 1

abbrev pub decreases-write_piece : goal.decreases-write_piece
decreases-write_piece l = 4 * l.levels + 1

abbrev pub decreases-write_pieces : goal.decreases-write_pieces
decreases-write_pieces l = 4 * l.levels + 2

-- what was written, and the others, are the value
abbrev pub invariant-write_pieces-loop-token : goal.invariant-write_pieces-loop-token
invariant-write_pieces-loop-token l =
    (l.initial.out ++ content (run (level_value l.names l.levels) Counts l.tokens) ≡ l.out ++ content (run (level_value l.names l.levels) l.mode (drop l.token-index l.tokens)))
    × (is_ok (run (level_value l.names l.levels) l.mode (drop l.token-index l.tokens)) ≡ true) × (depth_of l.mode ≤ l.token-index)
