use Rattle.pf_asks.proofs.LinkLemmas.{view_closed}
use Rattle.pf_asks.specs.Clauses.MemoryLinks.{open_try, outcome_at}
use Rattle.pf_asks.proofs.memory_links.MemLinks.close.Goals as goal

pub returns-then-self : goal.returns-then-self
returns-then-self c =
    rw (← c.self.view_is)
    (view_closed _ c.self.inside.is_open c.self.inside.request c.replace-request.result c.self.inside.tries c.set.new.self
    (open_try c.self.inside.is_open (outcome_at c.self.inside.place c.self.inside.outcomes) c.self.inside.read) c.len-last.result _
    c.if-self.true (c.self.invariant.0 c.if-self.true) c.len-last.ensures c.replace-request.ensures.value c.set.ensures)
