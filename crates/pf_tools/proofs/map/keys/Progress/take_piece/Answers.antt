use Rattle.std.proofs.Common.{◌∙◌}
use Rattle.pf_tools.proofs.KeyLaws.{comes_down_line}
use Rattle.pf_tools.specs.Clauses.Opened.{meant}
use Rattle.pf_tools.proofs.map.keys.Progress.take_piece.Goals as goal

pub lines-preserved : goal.lines-preserved
lines-preserved c =
    let taken = rw c.lines.invariant.same at c.in_ok-take_line.ensures.taken in
    record {
      down = comes_down_line (meant c.args.tables.now) c.in-Some.after.now c.lines.invariant.down taken c.in-Some.ensures.line c.in-Some.ensures.rest;
      same = c.in_ok-take_line.ensures.same ∙ c.lines.invariant.same;
    }
