use Rattle.pf_maincf.proofs.FaultLemmas.{there}
use Rattle.pf_tools.specs.Said.{printed}
use Rattle.pf_tools.proofs.said.printed.Goals as goal

pub returns-clause-is : goal.returns-clause-is
unfolding printed
returns-clause-is c = rw (there _ _ c.in_ok-main.ensures, there _ _ (rw c.in_ok-over.ensures at c.in_ok-settings.ensures)) (rw c.known.ensures at c.asked.ensures.is)
