use Rattle.std.proofs.Common.{◌≡◌, take}
use Rattle.pf_base.specs.Text.Names as names
use Rattle.pf_base.proofs.text.keys.fold.Given as goal

abbrev pub invariant-loop-b : goal.invariant-loop-b
invariant-loop-b l = l.folded ≡ names.folded (take l.b-index l.key)
