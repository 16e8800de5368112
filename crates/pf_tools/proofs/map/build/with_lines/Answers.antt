use Rattle.std.proofs.Common.{◌∙◌}
use Rattle.std.proofs.lemmas.Result.{err_from_is_err_and}
use Rattle.pf_tools.proofs.StreamLaws.{added_end, added_fault, added_more}
use Rattle.pf_tools.proofs.map.build.with_lines.Goals as goal

pub returns-in_err-next-clause-err : goal.returns-in_err-next-clause-err
returns-in_err-next-clause-err c =
    let p = err_from_is_err_and c.from_residual-in_err-next.result c.from_residual-in_err-next.ensures.1 in
    rw (p.1, p.2, c.turns.invariant)
    (λ memory. added_fault c.args.file.now c.args.folds c.turns.writer c.turns.lines.left _ (c.in_err-next.ensures.refusal memory))

pub returns-then-not-branch-clause-all : goal.returns-then-not-branch-clause-all
returns-then-not-branch-clause-all c =
    let first = rw c.if-not-branch.true at c.in_ok-next.ensures.entry in
    c.turns.invariant ∙ added_end c.args.file.now c.args.folds c.turns.writer c.turns.lines.left c.next.new.self.entry first

pub turns-preserved : goal.turns-preserved
turns-preserved c =
    let first = rw c.if-not-branch.false at c.in_ok-next.ensures.entry in
    rw (c.in-Ok.ensures.added, c.key.ensures, c.value.ensures, c.in_ok-next.ensures.left)
    (c.turns.invariant ∙ added_more c.args.file.now c.args.folds c.turns.writer c.turns.lines.left c.next.new.self.entry first)
