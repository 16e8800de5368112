use Rattle.std.proofs.Common.{Err, refl}
use Rattle.pf_base.proofs.KnownLemmas.{stops_first}
use Rattle.pf_base.specs.declared.outside.texts.SinkFault.TheVariants as fault
use Rattle.pf_tools.proofs.map.run.say_value.Goals as goal

pub returns-in_default : goal.returns-in_default
returns-in_default g c = λ mail log. record { said = Err fault.NoMemory; says = stops_first _ _; is = refl }

pub returns-in_default-value_line : goal.returns-in_default-value_line
returns-in_default-value_line g c = λ mail log. record { said = Err fault.NoMemory; says = stops_first _ _; is = refl }

pub returns : goal.returns
returns g c = λ mail log.
    let value = c.in-Ok.ensures.value in
    record {
      said = c.write_out.result;
      says = rw (c.as_slice.ensures, c.in-Ok-value_line.ensures, value) at (c.write_out.ensures.says mail log);
      is = rw (c.value_status.ensures, value) at c.status_after.ensures;
    }
