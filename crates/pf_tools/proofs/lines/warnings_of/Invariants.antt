use Rattle.std.proofs.Common.{◌≡◌, take}
use Rattle.pf_tools.proofs.lines.warnings_of.Given as goal
use Rattle.pf_tools.specs.Printed.{warnings_of}

abbrev pub invariant-loop-name : goal.invariant-loop-name
invariant-loop-name l = l.warnings ≡ warnings_of l.known (take l.name-index l.names)
