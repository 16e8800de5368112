use Rattle.std.proofs.Common.{take}
use Rattle.pf_maincf.specs.Clauses.Places.{AreLast, place_in}
use Rattle.pf_maincf.proofs.places.places_of.Given as goal

abbrev pub invariant-loop-place : goal.invariant-loop-place
invariant-loop-place l = AreLast (place_in l.places) (take l.place l.settings)
