use Rattle.std.proofs.Common.{refl, ap, ◌∙◌, arith}
use Rattle.pf_expand.proofs.LengthLaws.{depth_more, drop_item, run_alone, run_more, size_nothing}
use Rattle.pf_expand.specs.Clauses.Levels.{size_named}
use Rattle.pf_expand.specs.Clauses.Sizes.{added, joined}
use Rattle.pf_expand.specs.declared.run.Mode.TheVariants.{Counts}
use Rattle.pf_expand.proofs.lengths.pieces_size.Goals as goal

pub loop-token-init : goal.loop-token-init
loop-token-init c = (run_alone (size_named c.args.names.now c.args.sizes.now) Counts c.args.tokens.now, refl, omega arith)

pub loop-token-preserved : goal.loop-token-preserved
loop-token-preserved c =
    let next = c.joined-size.ensures ∙ ap (λ x. joined c.loop-token.size x) c.added.ensures in
    let after = rw c.choice_behind.ensures at c.behind-mode.ensures in (
      run_more c.args.names.now c.args.sizes.now c.args.tokens.now _ _ c.loop-token.size c.joined-size.result c.loop-token.mode c.behind-mode.result c.token-item.result
          c.loop-token.invariant.0 (drop_item c.args.tokens.now c.loop-token.token-index c.token-item.result (omega arith) c.token-item.is) next after,
      rw next (size_nothing c.loop-token.size (added (size_named c.args.names.now c.args.sizes.now) c.loop-token.mode c.token-item.result)),
      rw after (omega (arith, depth_more c.args.names.now c.args.sizes.now c.loop-token.mode c.token-item.result, c.loop-token.invariant.2)),
    )
