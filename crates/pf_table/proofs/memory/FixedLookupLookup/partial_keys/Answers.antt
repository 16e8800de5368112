use Rattle.pf_table.proofs.MemoryLemmas.{known_partial}
use Rattle.pf_table.proofs.memory.FixedLookupLookup.partial_keys.Goals as goal

pub returns-clause-known : goal.returns-clause-known
returns-clause-known c = known_partial c.args.self.now c.args.arg2.0
