use Rattle.std.proofs.Common.{refl}
use Rattle.pf_expand.proofs.RoundLaws.{next_sizes}
use Rattle.pf_expand.proofs.rounds.next.Goals as goal

pub returns-clause-sizes : goal.returns-clause-sizes
returns-clause-sizes c = next_sizes c.args.names.now _ c.args.sizes.now.levels refl refl c.in_ok-named.ensures
