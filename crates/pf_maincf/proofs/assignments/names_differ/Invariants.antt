use Rattle.std.proofs.Common.{◌≡◌, drop, map}
use Rattle.pf_maincf.specs.Edit.{differ}
use Rattle.pf_maincf.proofs.assignments.names_differ.Given as goal

abbrev pub invariant-loop-i : goal.invariant-loop-i
invariant-loop-i l = differ (map (λ assignment. assignment.name) l.assignments) ≡ differ (map (λ assignment. assignment.name) (drop l.i l.assignments))
