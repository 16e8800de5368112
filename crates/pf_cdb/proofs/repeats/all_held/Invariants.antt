use Rattle.std.proofs.Common.{◌≡◌, true, take}
use Rattle.std.specs.List.{list_all}
use Rattle.pf_cdb.specs.Held.{is_held}
use Rattle.pf_cdb.proofs.repeats.all_held.Given as goal

abbrev pub invariant-loop-bucket : goal.invariant-loop-bucket
invariant-loop-bucket l = list_all (λ v. list_all (λ slot. is_held l.file slot.at) v.items) (take l.bucket-index l.buckets) ≡ true
