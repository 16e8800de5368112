use Rattle.std.proofs.Common.{sym, ap, ◌∙◌}
use Rattle.pf_maincf.specs.Settings.{Conf}
use Rattle.pf_params.proofs.SettledLaws.{named_from_default_values}
use Rattle.pf_params.proofs.known.Known.new.Goals as goal

pub invariant_of-result : goal.invariant_of-result
invariant_of-result c =
    named_from_default_values c.new-names.result c.set_default_values.new.names c.set_names.new.names c.in_ok-values.values c.as_slice-3.result.now c.in_ok-main.main.settings
    c.in_ok-values.ensures (c.as_slice-3.ensures ∙ sym (ap (λ (conf : Conf). conf.settings) c.in_ok-main.ensures)) c.new-names.ensures c.in_ok-set_default_values.ensures
    c.in_ok-set_names.ensures
