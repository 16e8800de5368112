use Rattle.std.proofs.Common.{◌≡◌, ◌++◌, drop}
use Rattle.std.specs.Prelude.{map}
use Rattle.pf_maincf.specs.Edit.{placed}
use Rattle.pf_maincf.proofs.edit.placed.Given as goal

abbrev pub invariant-loop-assignment : goal.invariant-loop-assignment
invariant-loop-assignment l =
    map (placed l.conf.settings) l.assignments ≡ l.placed ++ map (placed l.conf.settings) (drop l.assignment-index l.assignments)
