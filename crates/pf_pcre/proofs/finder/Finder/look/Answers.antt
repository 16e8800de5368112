use Rattle.pf_pcre.proofs.SieveLemmas.{are_bytes, none_seen, sight_seen}
use Rattle.pf_pcre.proofs.finder.Finder.look.Goals as goal

pub returns-then-has_none-clause-seen : goal.returns-then-has_none-clause-seen
returns-then-has_none-clause-seen c = none_seen c.args.self.now.program c.args.text.now (are_bytes _ c.type_inv.text) (c.has_none.ensures.none c.if-has_none.true)

pub returns-clause-seen : goal.returns-clause-seen
returns-clause-seen c = sight_seen c.args.self.now.program c.args.text.now _ _ c.sight_of.ensures.near
