use Rattle.std.proofs.Common.{length}
use Rattle.pf_table.proofs.KeptLaws.{IsLeft}
use Rattle.pf_table.specs.Clauses.Keeping.{keys_of, pairs_at}
use Rattle.pf_table.proofs.pairs.index_in.Given as goal

abbrev pub invariant-loop-up_to : goal.invariant-loop-up_to
invariant-loop-up_to l = IsLeft (length l.heads) l.key (keys_of (pairs_at l.bytes l.places)) l.up_to

abbrev pub decreases-loop-up_to : goal.decreases-loop-up_to
decreases-loop-up_to l = l.up_to
