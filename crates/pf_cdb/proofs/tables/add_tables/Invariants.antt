use Rattle.std.proofs.Common.{◌≡◌, ◌++◌, take}
use Rattle.std.specs.List.{flat_map}
use Rattle.pf_cdb.specs.Written.{filled, table_bytes}
use Rattle.pf_cdb.proofs.tables.add_tables.Given as goal

abbrev pub invariant-loop-bucket : goal.invariant-loop-bucket
invariant-loop-bucket l = l.file ≡ l.fn.file ++ flat_map (λ v. table_bytes (filled v.items)) (take l.bucket-index l.buckets)
