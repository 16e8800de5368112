use Rattle.pf_pcre.proofs.FoundLemmas.{groups_are}
use Rattle.pf_pcre.proofs.pattern.Pattern.groups.Goals as goal

pub returns : goal.returns
returns c =
    rw (← c.self.view_is, c.saturating_sub.ensures)
    (groups_are c.self.inside.switches c.self.inside.regex c.self.invariant.built c.captures_len.result c.captures_len.ensures.names)
