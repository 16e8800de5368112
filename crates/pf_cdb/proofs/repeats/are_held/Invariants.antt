use Rattle.std.proofs.Common.{◌≡◌, true, take}
use Rattle.std.specs.List.{list_all}
use Rattle.pf_cdb.specs.Held.{is_held}
use Rattle.pf_cdb.proofs.repeats.are_held.Given as goal

abbrev pub invariant-loop-slot : goal.invariant-loop-slot
invariant-loop-slot l = list_all (λ slot. is_held l.file slot.at) (take l.slot-index l.slots) ≡ true
