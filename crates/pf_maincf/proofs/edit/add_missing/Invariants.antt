use Rattle.std.proofs.Common.{◌≡◌, ◌==◌, drop}
use Rattle.std.specs.List.{filter, fold}
use Rattle.pf_maincf.specs.Edit.{with_line}
use Rattle.pf_maincf.proofs.edit.add_missing.Given as goal

abbrev pub invariant-loop-assignment : goal.invariant-loop-assignment
invariant-loop-assignment l =
    fold with_line l.fn.text (filter (λ assignment. assignment.line == 0) l.assignments) ≡ fold with_line l.text (filter (λ assignment. assignment.line == 0) (drop l.assignment-index l.assignments))
