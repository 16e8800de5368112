use Rattle.std.proofs.Common.{ap, ◌∙◌, sym}
use Rattle.std.proofs.lemmas.Result.{err_from_is_err_and}
use Rattle.pf_base.specs.Clauses.Faults.{as_fault}
use Rattle.pf_table.proofs.ReadingLemmas.{taken_end, taken_fault, taken_more}
use Rattle.pf_table.proofs.text.entries_of.Goals as goal

pub returns-in_err-next : goal.returns-in_err-next
returns-in_err-next c =
    let p = err_from_is_err_and c.from_residual-in_err-next.result c.from_residual-in_err-next.ensures.1 in
    rw (p.1, p.2, c.turns.invariant)
    (λ memory. taken_fault c.args.file.now c.args.folds c.args.repeats c.turns.entries c.turns.lines.left _ (c.in_err-next.ensures.refusal memory))

pub returns-then-not-branch : goal.returns-then-not-branch
returns-then-not-branch c =
    let first = rw c.if-not-branch.true at c.in_ok-next.ensures.entry in
    ap as_fault (sym (c.turns.invariant ∙ taken_end c.args.file.now c.args.folds c.args.repeats c.turns.entries c.turns.lines.left c.next.new.self.entry first))

pub turns-preserved : goal.turns-preserved
turns-preserved c =
    let first = rw c.if-not-branch.false at c.in_ok-next.ensures.entry in
    rw (c.in_ok-take.ensures, c.number.ensures, c.key.ensures, c.value.ensures, c.in_ok-next.ensures.left)
    (c.turns.invariant ∙ taken_more c.args.file.now c.args.folds c.args.repeats c.turns.entries c.turns.lines.left c.next.new.self.entry first)
