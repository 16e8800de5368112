use Rattle.std.proofs.Common.{ap}
use Rattle.pf_base.proofs.StatusLemmas.{said_record}
use Rattle.pf_base.specs.Outside.Objects.{sinks}
use Rattle.pf_smtp.proofs.PieceLemmas.{no_record}
use Rattle.pf_smtp.proofs.progress.Progress.answer.Goals as goal

pub returns-clause-mail : goal.returns-clause-mail
returns-clause-mail g c =
    let none = no_record (ap (λ t. t.mail) c.clear.ensures) c.in_ok-take_piece.ensures in
    said_record (sinks (g.O.Sink.known c.args.out.now) (g.M.Sink.known c.args.mail.now) (g.J.Sink.known c.args.log.now))
    (sinks (g.O.Sink.known c.write_texts.new.out) (g.M.Sink.known c.write_texts.new.mail) (g.J.Sink.known c.write_texts.new.log))
    c.take_piece.new.texts c.write_texts.result none c.write_texts.ensures
