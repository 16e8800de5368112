use Rattle.std.proofs.Common.{◌≡◌, map, take}
use Rattle.pf_cdb.specs.Asked.{listed_pair}
use Rattle.pf_cdb.proofs.opened.CdbFile.listed.Given as goal

abbrev pub invariant-loop-pair : goal.invariant-loop-pair
invariant-loop-pair l = l.listed ≡ map listed_pair (take l.pair-index l.pair-items)
