use Rattle.pf_tools.proofs.OrderLaws.{parameters_all, parameters_more}
use Rattle.pf_tools.proofs.asked.add_parameters.Goals as goal

pub loop-place-preserved : goal.loop-place-preserved
loop-place-preserved c =
    parameters_more c.args.names.now c.loop-place.names c.add.new.self c.loop-place.place c.loop-place-test.true c.loop-place.invariant
    (rw (c.param_name.ensures, c.at.ensures) at c.in_ok-add.ensures)

pub returns : goal.returns
returns c = parameters_all c.args.names.now c.loop-place.names c.loop-place.place c.loop-place-test.false c.loop-place.invariant
