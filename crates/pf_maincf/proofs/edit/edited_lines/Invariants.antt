use Rattle.std.proofs.Common.{◌≡◌, ◌+◌, ◌≤◌, ◌++◌, length}
use Rattle.std.specs.Option.{option_copied}
use Rattle.pf_maincf.specs.Edit.{blocks_from, edited_lines, lines_in}
use Rattle.pf_maincf.specs.Clauses.Editing.{blocks_left}
use Rattle.pf_maincf.proofs.edit.edited_lines.Given as goal

abbrev pub invariant-lines : goal.invariant-lines
invariant-lines l =
    (edited_lines l.assignments l.text ≡ l.edited ++ blocks_left l.assignments (option_copied l.assignment) (blocks_from l.number (lines_in l.left)))
    × (l.number + length l.left ≤ length l.text + 1)

abbrev pub decreases-lines : goal.decreases-lines
decreases-lines l = length l.left
