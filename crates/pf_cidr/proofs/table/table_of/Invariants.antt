use Rattle.std.proofs.Common.{◌≡◌, drop}
use Rattle.pf_cidr.proofs.CountLaws.{Counted}
use Rattle.pf_cidr.proofs.TakingLaws.{goes_on, start}
use Rattle.pf_cidr.proofs.table.table_of.Given as goal

abbrev pub invariant-loop-logical : goal.invariant-loop-logical
invariant-loop-logical l = (goes_on start l.lines ≡ goes_on l.reading (drop l.logical-index l.lines)) × Counted l.reading
