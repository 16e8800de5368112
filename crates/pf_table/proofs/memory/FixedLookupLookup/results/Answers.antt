use Rattle.pf_table.proofs.MemoryLemmas.{answered_listing, failed_listing, failed_listing_is, listing_is, never_fails, known_has_all}
use Rattle.pf_table.proofs.memory.FixedLookupLookup.results.Goals as goal

pub returns-then-next-clause-answered : goal.returns-then-next-clause-answered
returns-then-next-clause-answered c = λ fault. failed_listing c.args.self.now c.args.id.0

pub returns-then-next-clause-stays : goal.returns-then-next-clause-stays
returns-then-next-clause-stays c = failed_listing_is c.args.self.now _ (rw c.if-next.true at c.next.ensures)

pub returns-then-next-clause-all : goal.returns-then-next-clause-all
returns-then-next-clause-all c = known_has_all c.args.self.now c.args.id.0

pub returns-else-next-clause-stays : goal.returns-else-next-clause-stays
returns-else-next-clause-stays c = listing_is c.args.self.now _ c.args.id.0 _ (rw c.if-next.false at c.next.ensures) (rw c.next.ensures.tables at c.values.ensures)

pub returns-else-next-clause-works : goal.returns-else-next-clause-works
returns-else-next-clause-works c = never_fails c.args.self.now c.args.id.0 _ (rw c.next.ensures.tables at c.values.ensures)

pub returns-else-next-clause-answered : goal.returns-else-next-clause-answered
returns-else-next-clause-answered c = answered_listing c.args.self.now c.args.id.0 _ (rw c.next.ensures.tables at c.values.ensures)

pub returns-else-next-clause-all : goal.returns-else-next-clause-all
returns-else-next-clause-all c = known_has_all c.args.self.now c.args.id.0
