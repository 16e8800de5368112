use Rattle.pf_tools.proofs.RunLaws.{runs, runs_short}
use Rattle.pf_tools.proofs.top.postconf.Goals as goal

pub returns-in_default : goal.returns-in_default
returns-in_default g c = λ input mail. runs_short c.args.words.now _ _ input mail _ _ c.in_default.ensures.err c.gather.ensures.same

pub returns : goal.returns
returns g c = λ input mail.
    runs c.args.words.now _ _ input mail _ _ _ _ c.in-Ok.report c.in-Ok.ensures.ok c.say.result c.status_after.result c.status_after.ensures (c.say.ensures.says mail)
    c.say.ensures.no_output c.say.ensures.nothing c.in-Ok.ensures.output c.in-Ok.ensures.same
