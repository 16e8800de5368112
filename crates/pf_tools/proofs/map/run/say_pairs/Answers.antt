use Rattle.std.proofs.Common.{Err, refl}
use Rattle.pf_base.proofs.KnownLemmas.{stops_first}
use Rattle.pf_base.specs.declared.outside.texts.SinkFault.TheVariants as fault
use Rattle.pf_tools.proofs.map.run.say_pairs.Goals as goal

pub returns-in_default : goal.returns-in_default
returns-in_default g c = λ mail log. record { said = Err fault.NoMemory; says = stops_first _ _; is = refl }

pub returns-in_default-pair_lines : goal.returns-in_default-pair_lines
returns-in_default-pair_lines g c = λ mail log. record { said = Err fault.NoMemory; says = stops_first _ _; is = refl }
