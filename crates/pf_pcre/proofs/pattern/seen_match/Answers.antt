use Rattle.pf_pcre.proofs.SieveLemmas.{some_seen}
use Rattle.pf_pcre.proofs.pattern.seen_match.Goals as goal

pub returns-in-Match : goal.returns-in-Match
returns-in-Match c = some_seen _ _ _ c.args.cells.now (rw c.in-Match.is at c.requires)
