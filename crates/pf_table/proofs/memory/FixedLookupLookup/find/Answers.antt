use Rattle.pf_table.proofs.MemoryLemmas.{answered_is, answered_lookup, failed_is, failed_lookup}
use Rattle.pf_table.proofs.memory.FixedLookupLookup.find.Goals as goal

pub returns-then-next-clause-answered : goal.returns-then-next-clause-answered
returns-then-next-clause-answered c = λ fault. failed_lookup c.args.self.now c.args.id.0 c.args.key.now

pub returns-then-next-clause-stays : goal.returns-then-next-clause-stays
returns-then-next-clause-stays c = failed_is c.args.self.now _ (rw (c.if-next.true, c.count_find.ensures) at c.next.ensures)

pub returns-clause-stays : goal.returns-clause-stays
returns-clause-stays c = answered_is c.args.self.now _ c.args.id.0 c.args.key.now _ (rw (c.if-next.false, c.count_find.ensures) at c.next.ensures)
    (rw (c.next.ensures.tables, c.count_find.ensures) at c.value.ensures)

pub returns-clause-answered : goal.returns-clause-answered
returns-clause-answered c = answered_lookup c.args.self.now c.args.id.0 c.args.key.now _ (rw (c.next.ensures.tables, c.count_find.ensures) at c.value.ensures)
