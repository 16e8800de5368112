use Rattle.pf_pcre.proofs.SieveLemmas.{passes_as}
use Rattle.pf_pcre.proofs.pattern.Pattern.tree.Goals as goal

pub returns : goal.returns
returns c = rw (← c.self.view_is) (passes_as c.self.inside.switches c.self.inside.regex _ _ c.in_ok-tree.ensures c.self.invariant)
