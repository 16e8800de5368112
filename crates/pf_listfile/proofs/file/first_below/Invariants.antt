use Rattle.std.proofs.Common.{◌≡◌, length}
use Rattle.pf_listfile.specs.Clauses.Places.{earlier, first_below, place_in}
use Rattle.pf_listfile.proofs.file.first_below.Given as goal

abbrev pub invariant-dots : goal.invariant-dots
invariant-dots l = earlier l.first (first_below (place_in l.below) l.left) ≡ first_below (place_in l.below) l.host

abbrev pub decreases-dots : goal.decreases-dots
decreases-dots l = length l.left
