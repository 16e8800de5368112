-- How many choices are open where pieces are passed over. A word of the code's contracts.
use Rattle.std.specs.Prelude.{ℕ}
use Rattle.pf_expand.specs.declared.run.Mode.{Mode}
use Rattle.pf_expand.specs.declared.run.Mode.TheVariants.{Counts, ToOtherwise, ToEnd}

abbrev pub depth_of : Mode → ℕ
depth_of Counts = 0
depth_of (ToOtherwise n) = n
depth_of (ToEnd n) = n
