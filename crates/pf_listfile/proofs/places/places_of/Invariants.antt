use Rattle.std.proofs.Common.{take}
use Rattle.pf_listfile.specs.Clauses.Places.{AreFirst, place_in}
use Rattle.pf_listfile.proofs.places.places_of.Given as goal

abbrev pub invariant-loop-place : goal.invariant-loop-place
invariant-loop-place l = AreFirst (place_in l.places) l.kind (take l.place l.items)
