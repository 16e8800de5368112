use Rattle.pf_addr.proofs.QuotedLemmas.{longer_means}
use Rattle.pf_addr.proofs.quoted.means_nothing.Goals as goal

pub returns-in-len2-up : goal.returns-in-len2-up
returns-in-len2-up c = longer_means c.args.content.now c.in-len2-up.len_at_least
