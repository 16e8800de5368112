use Rattle.pf_smtp.proofs.StepLemmas.{step_kept}
use Rattle.pf_smtp.proofs.progress.Progress.take_line.Goals as goal

pub returns : goal.returns
returns c =
    let given = rw (c.as_slice-whole.ensures, c.in_ok-keep.ensures, step_kept) at c.in_ok-answer_line.ensures in
    record { texts = given.texts; progress = rw (given.state, c.clear.ensures) }
