use Rattle.std.proofs.Common.{refl, sym, arith, ◌∙◌}
use Rattle.std.proofs.lemmas.List.{take_rest}
use Rattle.pf_asks.proofs.LinkLemmas.{view_received}
use Rattle.pf_asks.specs.Clauses.MemoryLinks.{outcome_at}
use Rattle.pf_asks.proofs.memory_links.MemLinksLinks.receive.Goals as goal

pub returns-clause-does : goal.returns-clause-does
returns-clause-does c =
    let count = simp (c.next_reply-reply.ensures, c.as_slice.ensures, take_rest) at c.copy_prefix-count.ensures.count in
    let copied = simp (c.next_reply-reply.ensures, c.as_slice.ensures, take_rest) at c.copy_prefix-count.ensures.copied in
    rw (← c.self.view_is)
    (view_received c.self.inside.is_open (outcome_at c.self.inside.place c.self.inside.outcomes) c.self.inside.read c.copy_prefix-count.result
    c.copy_prefix-count.new.buf _ (rw (← c.self.view_is) at (sym c.fails_at.ensures ∙ c.if-fails_at.false)) refl
    (omega (arith, count, c.copy_prefix-count.auto.buf)) copied)
