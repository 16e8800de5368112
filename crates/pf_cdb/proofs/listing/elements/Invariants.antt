use Rattle.std.proofs.Common.{◌≡◌, map, take}
use Rattle.pf_cdb.specs.Layout.{pair_at}
use Rattle.pf_cdb.proofs.listing.elements.Given as goal

abbrev pub invariant-loop-at : goal.invariant-loop-at
invariant-loop-at l = l.pairs ≡ map (pair_at l.file) (take l.at-index l.at-items)
