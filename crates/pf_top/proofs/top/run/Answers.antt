use Rattle.std.proofs.Common.{refl}
use Rattle.pf_base.specs.Outside.Objects.{objects}
use Rattle.pf_top.proofs.RunLemmas.{nothing_left, postconf_left, postmap_left, smtpd_left, unformed_left}
use Rattle.pf_top.proofs.StatusLemmas.{said_usage}
use Rattle.pf_top.proofs.top.run.Goals as goal

pub returns-in-Ok-Some-Smtpd : goal.returns-in-Ok-Some-Smtpd
returns-in-Ok-Some-Smtpd g c =
    let read = c.in-Ok-Some-Smtpd in
    smtpd_left read.ensures.is read.field-0-is read.field-0-0-is refl c.run_smtpd.ensures

pub returns-in-Ok-Some-Postconf : goal.returns-in-Ok-Some-Postconf
returns-in-Ok-Some-Postconf g c =
    let read = c.in-Ok-Some-Postconf in
    postconf_left read.ensures.is read.field-0-is read.field-0-0-is refl (c.postconf.ensures (g.S.Source.known c.args.input.now) (g.M.Sink.known c.args.mail.now))

pub returns-in-Ok-Some-Postmap : goal.returns-in-Ok-Some-Postmap
returns-in-Ok-Some-Postmap g c =
    let read = c.in-Ok-Some-Postmap in
    postmap_left read.ensures.is read.field-0-is read.field-0-0-is (c.postmap.ensures (g.M.Sink.known c.args.mail.now))

pub returns-in-Ok-None : goal.returns-in-Ok-None
returns-in-Ok-None g c =
    let read = c.in-Ok-None in
    unformed_left read.ensures.is read.field-0-is refl (said_usage _ _ _ c.say_usage.result c.status_after.ensures
    (record { says = c.say_usage.ensures (g.O.Sink.known c.args.out.now) (g.M.Sink.known c.args.mail.now); input = refl }) refl)

pub returns-in-Err : goal.returns-in-Err
returns-in-Err g c = nothing_left _ (objects (g.S.Source.known c.args.input.now) (g.O.Sink.known c.args.out.now) (g.M.Sink.known c.args.mail.now) (g.J.Sink.known c.args.log.now) (g.F.Files.known c.args.files.now)) c.args.patterns.now
