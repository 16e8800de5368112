use Rattle.std.proofs.Common.{sym}
use Rattle.pf_smtp.proofs.TookLemmas.{took_ended}
use Rattle.pf_smtp.proofs.session.Session.feed.Goals as goal

pub returns-then-self-clause-took : goal.returns-then-self-clause-took
returns-then-self-clause-took g c = rw (sym c.self.view_is) (took_ended _ c.self.inside.progress c.args.piece.now c.if-self.true)
