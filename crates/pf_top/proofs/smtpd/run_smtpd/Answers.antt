use Rattle.std.proofs.Common.{Err, ap, refl}
use Rattle.pf_top.proofs.StatusLemmas.{took_course}
use Rattle.pf_top.specs.Smtpd.{Course as course}
use Rattle.pf_top.proofs.smtpd.run_smtpd.Goals as goal

pub returns-in_default : goal.returns-in_default
returns-in_default g c = took_course c.args.words.now _ _ _ course.starves refl ((refl, refl), refl)

pub returns-in-Ok-open_conf : goal.returns-in-Ok-open_conf
returns-in-Ok-open_conf g c =
    let known = rw (c.as_slice-file.ensures, c.in-Ok.ensures) at c.in-Ok-open_conf.ensures.known in
    took_course c.args.words.now _ _ _ (course.serves c.in-Ok-open_conf.opening c.run_session.result) c.loop_status.ensures
    (known, c.in-Ok-open_conf.ensures.kept (λ e. cc), c.run_session.ensures)

pub returns-in-Err-Refused : goal.returns-in-Err-Refused
returns-in-Err-Refused g c =
    let is = c.in-Err-Refused.field-0-is in
    let known = rw (is, c.as_slice-file.ensures, c.in-Ok.ensures) at c.in-Err-Refused.ensures.known in
    took_course c.args.words.now _ _ _ (course.refuses c.in-Err-Refused.refusal c.say_refused.result) c.status_after.ensures
    (known, c.in-Err-Refused.ensures.kept (λ e. cc), record { says = c.say_refused.ensures _ _; input = refl })

pub returns-in-Err-Failed : goal.returns-in-Err-Failed
returns-in-Err-Failed g c =
    let says = rw (c.as_slice-file.ensures, c.in-Ok.ensures) at (c.say_unread.ensures (g.O.Sink.known c.args.out.now) (g.M.Sink.known c.args.mail.now)) in
    took_course c.args.words.now _ _ _ (course.unread c.say_unread.result) c.status_after-in-Err-Failed.ensures
    (c.in-Err-Failed.ensures.failed (ap Err c.in-Err-Failed.field-0-is), record { says = says; input = refl })

pub returns : goal.returns
returns g c =
    let is = c.in-Err-NoMemory.field-0-is in
    took_course c.args.words.now _ _ _ course.starves refl (c.in-Err-NoMemory.ensures.kept (λ e. cc), refl)
