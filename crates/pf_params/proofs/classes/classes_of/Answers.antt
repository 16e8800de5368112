use Rattle.std.proofs.Common.{arith}
use Rattle.pf_params.proofs.ClassLaws.{held_more, refusal_more}
use Rattle.pf_params.proofs.classes.classes_of.Goals as goal

pub loop-name-preserved : goal.loop-name-preserved
loop-name-preserved c = record {
  held = held_more c.args.known.now c.args.names.now c.loop-name.name-index c.name-item.result (omega arith) c.name-item.is _ _ _ c.loop-name.invariant.held c.in_ok-classes.ensures.held;
  refusal = refusal_more c.args.known.now c.args.names.now c.loop-name.name-index c.name-item.result (omega arith) c.name-item.is _ _ _ c.loop-name.invariant.refusal c.in_ok-classes.ensures.refusal;
}
