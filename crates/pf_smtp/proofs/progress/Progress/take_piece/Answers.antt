use Rattle.std.proofs.Common.{sym, ◌∙◌}
use Rattle.std.proofs.lemmas.Bool.{false≢true}
use Rattle.pf_smtp.proofs.PieceLemmas.{answers_at_end, comes_down_line, given_none, given_ended, partial_none}
use Rattle.pf_smtp.proofs.progress.Progress.take_piece.Goals as goal

pub returns-in-None : goal.returns-in-None
returns-in-None c =
    answers_at_end c.lines.invariant (given_none c.lines.self c.lines.left.now c.in-None.ensures.none) c.keep.new.self
    (λ going. c.in_ok-keep-in-None.ensures ∙ sym (partial_none c.lines.self c.lines.left.now c.in-None.ensures.none))

pub lines-preserved : goal.lines-preserved
lines-preserved c =
    comes_down_line c.in-Some.after.now c.lines.invariant c.in_ok-take_line-in-Some.ensures c.in-Some.ensures.line c.in-Some.ensures.rest c.lines-test.true

pub returns : goal.returns
returns c =
    answers_at_end c.lines.invariant (given_ended c.lines.self c.lines.left.now c.lines-test.false) c.lines.self.partial
    (λ going. absurd (false≢true (sym going ∙ c.lines-test.false)))
