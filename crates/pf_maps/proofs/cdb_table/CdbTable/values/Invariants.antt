use Rattle.std.proofs.Common.{◌≡◌, take}
use Rattle.std.specs.List.{flat_map}
use Rattle.pf_maps.specs.Cdb.{values_of}
use Rattle.pf_maps.proofs.cdb_table.CdbTable.values.Given as goal

abbrev pub invariant-loop-pair : goal.invariant-loop-pair
invariant-loop-pair l = l.values ≡ flat_map values_of (take l.pair-index l.pair-items)
