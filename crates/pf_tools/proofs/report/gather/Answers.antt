use Rattle.std.proofs.Common.{Err, ap, refl}
use Rattle.std.proofs.lemmas.Result.{IfOk-weaker, on_err_weaker}
use Rattle.pf_tools.proofs.ReportLaws.{edit_report, edit_short, prints_report, refuses_report, starved, starved_result, unread_report, unread_short}
use Rattle.pf_tools.proofs.report.gather.Goals as goal

pub returns-in-Ok-Printed-clause-ok : goal.returns-in-Ok-Printed-clause-ok
returns-in-Ok-Printed-clause-ok g c =
    let known = rw (c.as_slice-file.ensures, c.in_ok-name.ensures, c.in-Ok-Printed.field-0-is) at c.in-Ok-Printed.ensures.known in
    prints_report c.args.words.now _ _ c.in-Ok-Printed.lines c.in-Ok-Printed.warnings c.printed_report.result known (c.in-Ok-Printed.ensures.kept (λ e. cc)) c.printed_report.ensures

pub returns-in-Ok-Edited-clause-ok : goal.returns-in-Ok-Edited-clause-ok
returns-in-Ok-Edited-clause-ok g c =
    let known = rw (c.as_slice-file.ensures, c.in_ok-name.ensures, c.in-Ok-Edited.field-0-is) at c.in-Ok-Edited.ensures.known in
    let is = rw (c.as_slice-file.ensures, c.in_ok-name.ensures, c.as_slice.ensures) at c.edited_report.ensures.report in
    IfOk-weaker c.edited_report.result _ _ (λ report is. edit_report c.args.words.now _ (g.F.Files.known c.file_said.new.files) _ c.in-Ok-Edited.text (c.in-Ok-Edited.ensures.kept (λ e. cc)) known report is) is

pub returns-in-Ok-Edited-clause-err : goal.returns-in-Ok-Edited-clause-err
returns-in-Ok-Edited-clause-err g c =
    let known = rw (c.as_slice-file.ensures, c.in_ok-name.ensures, c.in-Ok-Edited.field-0-is) at c.in-Ok-Edited.ensures.known in
    let left = rw (c.as_slice-file.ensures, c.in_ok-name.ensures, c.as_slice.ensures) at c.edited_report.ensures.err in
    on_err_weaker c.edited_report.result (λ left. edit_short c.args.words.now _ (g.F.Files.known c.file_said.new.files) _ c.in-Ok-Edited.text (c.in-Ok-Edited.ensures.kept (λ e. cc)) known left) left

pub returns-in-Err-Refused-clause-ok : goal.returns-in-Err-Refused-clause-ok
returns-in-Err-Refused-clause-ok g c =
    let fault = c.in-Err-Refused.field-0-is in
    let known = rw (c.in-Err-Refused.field-0-is, c.as_slice-file.ensures, c.in_ok-name.ensures) at c.in-Err-Refused.ensures.known in
    IfOk-weaker c.refused_report.result _ _ (λ report is. refuses_report c.args.words.now _ _ c.in-Err-Refused.refusal report known (c.in-Err-Refused.ensures.kept (λ e. cc)) is)
    c.refused_report.ensures

pub returns-in-Err-Failed-clause-ok : goal.returns-in-Err-Failed-clause-ok
returns-in-Err-Failed-clause-ok g c =
    let is = rw (c.as_slice-file.ensures, c.in_ok-name.ensures) at c.failed_report.ensures in
    IfOk-weaker c.failed_report.result _ _ (λ report is. unread_report c.args.words.now _ _ report (c.in-Err-Failed.ensures.failed (ap Err c.in-Err-Failed.field-0-is)) is) is

pub returns-in_err-name-clause-err : goal.returns-in_err-name-clause-err
returns-in_err-name-clause-err g c = starved_result c.args.words.now _ _ c.from_residual.result (refl, refl)

pub returns-in-Err-Refused-clause-err : goal.returns-in-Err-Refused-clause-err
returns-in-Err-Refused-clause-err g c =
    let fault = c.in-Err-Refused.field-0-is in
    starved_result c.args.words.now _ _ c.refused_report.result (c.in-Err-Refused.ensures.kept (λ e. cc))

pub returns-in-Err-Failed-clause-err : goal.returns-in-Err-Failed-clause-err
returns-in-Err-Failed-clause-err g c = unread_short c.args.words.now _ _ c.failed_report.result (c.in-Err-Failed.ensures.failed (ap Err c.in-Err-Failed.field-0-is))

pub returns-clause-err : goal.returns-clause-err
returns-clause-err g c =
    let fault = c.in-Err-NoMemory.field-0-is in
    starved c.args.words.now _ _ (c.in-Err-NoMemory.ensures.kept (λ e. cc))
