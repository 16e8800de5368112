use Rattle.pf_asks.proofs.LinkLemmas.{view_begun}
use Rattle.pf_asks.specs.Clauses.MemoryLinks.{outcome_at}
use Rattle.pf_asks.proofs.memory_links.MemLinks.begin.Goals as goal

pub returns-clause-ok : goal.returns-clause-ok
returns-clause-ok c =
    rw (← c.self.view_is)
    (view_begun c.self.inside.outcomes c.self.inside.is_open c.self.inside.request c.no_request.result c.self.inside.tries c.push.new.self
    (outcome_at c.self.inside.place c.self.inside.outcomes) c.args.service.now c.in_ok-from_slice.field-0 c.new.result c.self.inside.read c.self.inside.next
    c.behind_place-self-inside.result _ (rw (← c.self.view_is) at c.requires) c.in_ok-push.ensures.ok (rw c.len.ensures at c.behind_place-self-inside.ensures)
    c.in_ok-from_slice.ensures c.new.ensures)
