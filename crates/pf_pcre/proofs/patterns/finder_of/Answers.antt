use Rattle.pf_pcre.proofs.SieveLemmas.{finds_as}
use Rattle.pf_pcre.proofs.patterns.finder_of.Goals as goal

pub returns-in-Ok-new-clause-finds : goal.returns-in-Ok-new-clause-finds
returns-in-Ok-new-clause-finds c =
    finds_as c.args.switches.now c.args.pattern.now _ _ _ c.in-Ok-new.ensures (rw c.config_of.ensures at c.in-Ok.ensures.ok)
