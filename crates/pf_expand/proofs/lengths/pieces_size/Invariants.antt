use Rattle.std.proofs.Common.{◌≡◌, ◌≤◌, drop}
use Rattle.pf_expand.specs.Clauses.Levels as levels
use Rattle.pf_expand.specs.Clauses.RunsMeant.{depth_of}
use Rattle.pf_expand.specs.Clauses.Sizes as sizes
use Rattle.pf_expand.specs.declared.run.Mode.TheVariants.{Counts}
use Rattle.pf_expand.specs.declared.size.Size.TheVariants.{Long}
use Rattle.pf_expand.proofs.lengths.pieces_size.Given as goal

-- the pieces so far, and then the others
abbrev pub invariant-loop-token : goal.invariant-loop-token
invariant-loop-token l =
    (sizes.run (levels.size_named l.names l.sizes) Counts l.tokens ≡ sizes.joined l.size (sizes.run (levels.size_named l.names l.sizes) l.mode (drop l.token-index l.tokens)))
    × (sizes.joined l.size (Long 0) ≡ l.size) × (depth_of l.mode ≤ l.token-index)
