use Rattle.std.proofs.Common.{◌<◌, ℕ}
use Rattle.pf_cdb.specs.Clauses.Readable.{IsTableWhole}
use Rattle.pf_cdb.proofs.checking.are_tables_whole.Given as goal

abbrev pub invariant-loop-table : goal.invariant-loop-table
invariant-loop-table l = (k : ℕ) → k < l.table → IsTableWhole l.file k
