use Rattle.std.proofs.Common.{◌≡◌, ◌++◌, take}
use Rattle.pf_base.specs.Text.Printing.{printed}
use Rattle.pf_base.proofs.text.printing.add_printed.Given as goal

abbrev pub invariant-loop-b : goal.invariant-loop-b
invariant-loop-b l = l.text ≡ l.initial.text ++ printed (take l.b-index l.bytes)
