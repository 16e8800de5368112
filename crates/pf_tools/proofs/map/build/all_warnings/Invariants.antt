use Rattle.std.proofs.Common.{◌≡◌, take, true}
use Rattle.pf_tools.specs.Map.Built.{warnings_of}
use Rattle.pf_tools.proofs.map.build.all_warnings.Given as goal

abbrev pub invariant-loop-one : goal.invariant-loop-one
invariant-loop-one l = l.warnings ≡ warnings_of l.file true (take l.one-index l.repeated)
