use Rattle.std.proofs.Common.{◌≡◌, ◌+◌, ◌≤◌, ◌++◌, ◌∷◌, [], length}
use Rattle.pf_base.specs.Text.Lines.{lines, rest}
use Rattle.pf_base.specs.Text.Logical.{physical_lines, numbered, grouped}
use Rattle.pf_base.specs.Clauses.Gathering.{IsBegun, then_grouped}
use Rattle.pf_base.proofs.text.logical.logical_lines.Given as goal

abbrev pub invariant-lines : goal.invariant-lines
invariant-lines l =
    (grouped (physical_lines l.text) ≡ then_grouped l.gathered (grouped (numbered l.number (lines l.left ++ rest l.left ∷ []))))
    × IsBegun l.gathered
    × (l.number + length l.left ≤ length l.text + 1)

abbrev pub decreases-lines : goal.decreases-lines
decreases-lines l = length l.left
