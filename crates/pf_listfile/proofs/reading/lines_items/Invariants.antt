use Rattle.std.proofs.Common.{◌≡◌, drop}
use Rattle.pf_listfile.specs.Clauses.Adding.{joined}
use Rattle.pf_listfile.specs.ListFile.{lines_items}
use Rattle.pf_listfile.proofs.reading.lines_items.Given as goal

abbrev pub invariant-loop-logical : goal.invariant-loop-logical
invariant-loop-logical l = joined l.items (lines_items l.file (drop l.logical-index l.lines)) ≡ lines_items l.file l.lines
