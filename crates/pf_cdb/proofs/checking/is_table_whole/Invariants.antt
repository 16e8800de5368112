use Rattle.std.proofs.Common.{◌≡◌, ◌<◌, ℕ, false}
use Rattle.pf_cdb.specs.Clauses.Readable.{is_damaged}
use Rattle.pf_cdb.specs.Layout.{slot_of}
use Rattle.pf_cdb.proofs.checking.is_table_whole.Given as goal

abbrev pub invariant-loop-i : goal.invariant-loop-i
invariant-loop-i l = (k : ℕ) → k < l.i → is_damaged l.file l.table (slot_of l.file l.table k) ≡ false
