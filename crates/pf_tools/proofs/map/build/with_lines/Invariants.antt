use Rattle.std.proofs.Common.{◌≡◌, length}
use Rattle.pf_table.specs.Text.{lines_read}
use Rattle.pf_tools.proofs.StreamLaws.{added_all}
use Rattle.pf_tools.specs.Clauses.Streaming.{line_pairs}
use Rattle.pf_tools.proofs.map.build.with_lines.Given as goal

abbrev pub invariant-turns : goal.invariant-turns
invariant-turns l = line_pairs l.file l.folds l.text ≡ added_all l.writer (lines_read l.file l.folds l.lines.left)

abbrev pub decreases-turns : goal.decreases-turns
decreases-turns l = length l.lines.left
