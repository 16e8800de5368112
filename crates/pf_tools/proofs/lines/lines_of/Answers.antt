use Rattle.std.proofs.Common.{◌∙◌, arith}
use Rattle.pf_maincf.proofs.FaultLemmas.{there}
use Rattle.pf_tools.proofs.LineLaws.{line_more}
use Rattle.pf_tools.proofs.lines.lines_of.Goals as goal

pub loop-name-preserved : goal.loop-name-preserved
loop-name-preserved c =
    let line = there _ _ (rw c.as_slice.ensures at c.in_ok-line.ensures) in
    rw (c.in_ok-extend.ensures.ok, c.as_slice-in-loop-name.ensures)
    (line_more c.args.words.now c.args.known.now c.args.names.now c.loop-name.name-index c.name-item.result c.in_ok-line.line c.loop-name.lines (omega arith) c.name-item.is line ∙ c.loop-name.invariant)
