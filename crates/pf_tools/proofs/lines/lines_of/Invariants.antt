use Rattle.std.proofs.Common.{◌≡◌, ◌++◌, drop, Ok}
use Rattle.pf_base.specs.Results.{◌>>=◌}
use Rattle.pf_tools.specs.Printed.{lines_of}
use Rattle.pf_tools.proofs.lines.lines_of.Given as goal

abbrev pub invariant-loop-name : goal.invariant-loop-name
invariant-loop-name l = (lines_of l.words l.known (drop l.name-index l.names) >>= (λ behind. Ok (l.lines ++ behind))) ≡ lines_of l.words l.known l.names
