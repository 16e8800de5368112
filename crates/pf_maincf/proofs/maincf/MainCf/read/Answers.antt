use Rattle.std.proofs.Common.{◌≢◌, ℕ}
use Rattle.std.proofs.lemmas.Result.{err_from_is_err_and}
use Rattle.pf_base.specs.declared.text.logical.TextFault.TheVariants.{Continuation, NoMemory}
use Rattle.pf_maincf.proofs.FaultLemmas.{conf_fault, conf_of_lines, continued, there}
use Rattle.pf_maincf.proofs.maincf.MainCf.read.Goals as goal

continuation_is_not_memory : (line : ℕ) → Continuation line ≢ NoMemory
continuation_is_not_memory line e = cc

pub returns-in-Err-Continuation : goal.returns-in-Err-Continuation
returns-in-Err-Continuation c = λ memory.
    let lines = rw c.in-Err-Continuation.field-0-is at c.in-Err-Continuation.ensures in
    rw (c.refuse.ensures memory, continued c.args.file.now c.args.text.now c.in-Err-Continuation.line (lines (continuation_is_not_memory c.in-Err-Continuation.line)))

pub returns-in_err-settings : goal.returns-in_err-settings
returns-in_err-settings c =
    let p = err_from_is_err_and c.from_residual.result c.from_residual.ensures.1 in
    rw (p.1, p.2, conf_of_lines c.args.file.now c.args.text.now _ c.in-Ok.ensures) (λ memory. conf_fault c.args.file.now _ _ (rw c.as_slice.ensures at c.in_err-settings.ensures memory))

pub returns : goal.returns
returns c =
    let settings = there _ _ (rw c.as_slice.ensures at c.in_ok-settings.ensures) in
    rw (conf_of_lines c.args.file.now c.args.text.now _ c.in-Ok.ensures, settings, c.in_ok-conf.ensures)
