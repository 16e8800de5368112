use Rattle.std.proofs.Common.{rules}
use Rattle.pf_table.specs.Clauses.Keeping.{hash_of}
use Rattle.pf_table.proofs.pairs.hash.Goals as goal

pub returns : goal.returns
unfolding hash_of
returns c = search rules
