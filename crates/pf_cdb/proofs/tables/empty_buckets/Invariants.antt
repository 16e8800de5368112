use Rattle.std.proofs.Common.{◌≡◌, [], replicate}
use Rattle.pf_cdb.specs.Clauses.Gathered.{slot_lists}
use Rattle.pf_cdb.proofs.tables.empty_buckets.Given as goal

abbrev pub invariant-loop : goal.invariant-loop
invariant-loop l = slot_lists l.buckets.items ≡ replicate l.counter []
