use Rattle.std.proofs.Common.{◌≡◌, length}
use Rattle.pf_table.proofs.ReadingLemmas.{taken_all}
use Rattle.pf_table.specs.Clauses.Reading.{entries_read}
use Rattle.pf_table.specs.Text.{lines_read}
use Rattle.pf_table.proofs.text.entries_of.Given as goal

abbrev pub invariant-turns : goal.invariant-turns
invariant-turns l = entries_read l.file l.folds l.repeats l.text ≡ taken_all l.repeats l.entries (lines_read l.file l.folds l.lines.left)

abbrev pub decreases-turns : goal.decreases-turns
decreases-turns l = length l.lines.left
