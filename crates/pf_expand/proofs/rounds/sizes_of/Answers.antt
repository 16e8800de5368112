use Rattle.std.proofs.Common.{arith, refl}
use Rattle.pf_expand.proofs.RoundLaws.{no_levels}
use Rattle.pf_expand.proofs.StableLaws.{sizes_stay}
use Rattle.pf_expand.proofs.rounds.sizes_of.Goals as goal

pub loop-sizes-init : goal.loop-sizes-init
loop-sizes-init c = (λ name. rw c.new.ensures (no_levels c.args.names.now name), omega arith)

pub returns-then-are_same-clause-sizes : goal.returns-then-are_same-clause-sizes
returns-then-are_same-clause-sizes c =
    let same = c.are_same.ensures.0 c.if-are_same.true in
    sizes_stay c.args.names.now c.loop-sizes.sizes c.in_ok-more.more _ c.loop-sizes.invariant.0 c.in_ok-more.ensures.sizes c.in_ok-more.ensures.levels same.0 same.1
    (omega (arith, c.loop-sizes.invariant.1)) refl refl
