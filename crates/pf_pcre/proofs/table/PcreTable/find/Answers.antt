use Rattle.std.proofs.Common.{None, Some, sym, ◌∙◌}
use Rattle.pf_pcre.proofs.KeyLemmas.{found_is}
use Rattle.pf_pcre.proofs.table.PcreTable.find.Goals as goal

pub returns-in-Some-clause-value : goal.returns-in-Some-clause-value
returns-in-Some-clause-value c =
    rw (← c.self.view_is)
    (found_is c.self.inside.parts c.args.key.now c.as_str.result.now (Some c.in-Some.value) (c.as_str.ensures.value ∙ c.in_ok-text.ensures.text)
    (sym c.in-Some.is ∙ c.in_ok-value.ensures.value))

pub returns-clause-value : goal.returns-clause-value
returns-clause-value c =
    rw (← c.self.view_is)
    (found_is c.self.inside.parts c.args.key.now c.as_str.result.now None (c.as_str.ensures.value ∙ c.in_ok-text.ensures.text)
    (sym c.in-None.is ∙ c.in_ok-value.ensures.value))
