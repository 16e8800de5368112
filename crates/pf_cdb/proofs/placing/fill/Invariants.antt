use Rattle.std.proofs.Common.{◌≡◌, ◌*◌, length, replicate, take}
use Rattle.std.specs.List.{fold}
use Rattle.pf_cdb.specs.Held.{empty}
use Rattle.pf_cdb.specs.Written.{put}
use Rattle.pf_cdb.proofs.placing.fill.Given as goal

abbrev pub invariant-loop-slot : goal.invariant-loop-slot
invariant-loop-slot l = l.slots.items ≡ fold put (replicate (2 * length l.placed) empty) (take l.slot-index l.placed)
