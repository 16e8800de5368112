use Rattle.pf_asks.proofs.MemoryLemmas.{failed_question, found_has_values}
use Rattle.pf_asks.proofs.memory.MemResolverResolver.ask.Goals as goal

pub returns-then-next-clause-answered : goal.returns-then-next-clause-answered
returns-then-next-clause-answered c = λ fault. failed_question c.args.self.now.rows c.args.name.now c.args.kind

pub returns-clause-values : goal.returns-clause-values
returns-clause-values c = rw (c.in_ok-answer.ensures, c.as_slice.ensures) (found_has_values _ c.self.inside.rows c.self.invariant)
