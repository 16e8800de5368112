use Rattle.pf_tools.proofs.OrderLaws.{HasParameters}
use Rattle.pf_tools.proofs.asked.add_parameters.Given as goal

abbrev pub invariant-loop-place : goal.invariant-loop-place
invariant-loop-place l = HasParameters l.initial.names l.names l.place
