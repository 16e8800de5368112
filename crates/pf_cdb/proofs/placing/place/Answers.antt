use Rattle.std.proofs.Common.{arith}
use Rattle.pf_cdb.proofs.PlaceLaws.{all_used, put_here}
use Rattle.pf_cdb.proofs.placing.place.Goals as goal

pub returns-then-slots-i-eq0 : goal.returns-then-slots-i-eq0
returns-then-slots-i-eq0 c =
    put_here c.loop-step.slots c.args.slots.now c.args.slot c.loop-step.step c.tried_slot-i.result _ c.loop-step.invariant.same c.loop-step-test.true
    c.loop-step.invariant.used c.tried_slot-i.ensures.slot c.if-slots-i-eq0.true

pub unreachable-requires : goal.unreachable-requires
unreachable-requires c =
    let all = all_used c.args.slots.now c.args.slot.hash (λ k low. c.loop-step.invariant.used k (omega arith)) in omega (arith, all)
