use Rattle.std.proofs.Common.{◌≡◌, ◌++◌, take}
use Rattle.std.specs.List.{flat_map}
use Rattle.pf_base.specs.Text.Printing.{printed}
use Rattle.pf_smtp.proofs.printing.add_all_printed.Given as goal

abbrev pub invariant-loop-part : goal.invariant-loop-part
invariant-loop-part l = l.text ≡ l.initial.text ++ flat_map (λ part. printed part.now) (take l.part-index l.parts)
