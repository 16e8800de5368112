use Rattle.pf_table.proofs.MemoryLemmas.{can_find_below}
use Rattle.pf_table.proofs.memory.FixedLookup.has.Goals as goal

pub returns-clause-can_find : goal.returns-clause-can_find
returns-clause-can_find c = λ all. can_find_below c.args.self.now c.args.ids.now _ c.count.ensures (rw c.are_below.ensures at all)
