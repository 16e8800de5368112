use Rattle.pf_maincf.proofs.Ends.{last_feed}
use Rattle.pf_maincf.proofs.edit.is_ended.Goals as goal

pub returns-in-len1-up : goal.returns-in-len1-up
returns-in-len1-up c = last_feed c.args.text.now c.in-len1-up.len_at_least
