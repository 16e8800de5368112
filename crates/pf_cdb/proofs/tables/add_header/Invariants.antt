use Rattle.std.proofs.Common.{◌≡◌, ◌+◌, ◌++◌, map}
use Rattle.pf_cdb.proofs.HeaderLaws.{tables_from}
use Rattle.pf_cdb.specs.Clauses.Gathered.{slot_lists}
use Rattle.pf_cdb.specs.Written.{filled, header_bytes, tables_size}
use Rattle.pf_cdb.proofs.tables.add_header.Given as goal

abbrev pub invariant-loop-bucket : goal.invariant-loop-bucket
invariant-loop-bucket l = record {
  size : l.at + tables_size (tables_from (λ v. v.items) l.buckets l.bucket-index) ≡ l.start + tables_size (map filled (slot_lists l.buckets));
  bytes : l.file ++ header_bytes l.at (tables_from (λ v. v.items) l.buckets l.bucket-index) ≡ l.fn.file ++ header_bytes l.start (map filled (slot_lists l.buckets));
}
