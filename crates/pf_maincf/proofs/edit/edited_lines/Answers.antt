use Rattle.std.proofs.Common.{◌+◌, ◌++◌, ◌∷◌, [], length, sym, ap, ◌∙◌, append_assoc, arith, length-append}
use Rattle.std.specs.Option.{option_copied}
use Rattle.pf_maincf.proofs.BlockLemmas.{left_last, left_more}
use Rattle.pf_maincf.specs.Edit.{Line, blocks_from, lines_in}
use Rattle.pf_maincf.specs.Clauses.Editing.{blocks_left, line_left, assignment_from}
use Rattle.pf_maincf.proofs.edit.edited_lines.Goals as goal

pub returns-in-None : goal.returns-in-None
returns-in-None c =
    let sofar = rw (c.in-None.ensures.none, c.in-None.ensures.no_rest) at c.lines.invariant.0 in
    rw (sofar, left_last c.args.assignments.now (option_copied c.lines.assignment) c.lines.number (record { text = c.lines.left.now; feed = [] }), ← c.assignment_from-assignment.ensures)
    c.in_ok-add_line-in-None.ensures

pub lines-preserved : goal.lines-preserved
lines-preserved c =
    let sofar = rw (c.in-Some.ensures.line, c.in-Some.ensures.rest) at c.lines.invariant.0 in
    let line : Line = record { text = c.in-Some.line.now; feed = 10 ∷ [] } in
    let behind = blocks_from (c.lines.number + 1) (lines_in c.in-Some.behind.now) in
    let assignment = assignment_from c.args.assignments.now (option_copied c.lines.assignment) c.lines.number line.text in
    let n = ap length c.in-Some.ensures.bytes ∙ length-append c.in-Some.line.now (10 ∷ c.in-Some.behind.now) in (
      rw (c.in_ok-add_line-in-Some.ensures, c.assignment_from-assignment-in-Some.ensures)
          (sofar ∙ ap (λ more. c.lines.edited ++ more) (left_more c.args.assignments.now (option_copied c.lines.assignment) c.lines.number line behind)
          ∙ sym (append_assoc c.lines.edited (line_left assignment line) (blocks_left c.args.assignments.now assignment behind))),
      omega (arith, n, c.lines.invariant.1),
    )
