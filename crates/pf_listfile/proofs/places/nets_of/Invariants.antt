use Rattle.std.proofs.Common.{◌≡◌, take}
use Rattle.pf_listfile.specs.Clauses.Places.{net_places}
use Rattle.pf_listfile.proofs.places.nets_of.Given as goal

abbrev pub invariant-loop-place : goal.invariant-loop-place
invariant-loop-place l = l.nets ≡ net_places 0 (take l.place l.items)
