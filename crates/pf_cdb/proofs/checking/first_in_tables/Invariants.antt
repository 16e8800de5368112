use Rattle.std.proofs.Common.{◌≡◌, None}
use Rattle.pf_cdb.specs.Damaged.{first_below, table_damage}
use Rattle.pf_cdb.proofs.checking.first_in_tables.Given as goal

abbrev pub invariant-loop-table : goal.invariant-loop-table
invariant-loop-table l = first_below l.table (table_damage l.file) ≡ None
