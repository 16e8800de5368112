use Rattle.std.proofs.Common.{refl}
use Rattle.pf_pcre.proofs.RunLemmas.{none_applies, still_passes}
use Rattle.pf_pcre.proofs.SieveLemmas.{are_bytes}
use Rattle.pf_pcre.proofs.run.Run.value.Goals as goal

pub invariant_of-self : goal.invariant_of-self
invariant_of-self c = still_passes c.self.inside.sieve.program c.passes_over.new.self.program _ _ c.passes_over.ensures.same refl c.self.invariant

pub returns-then-passes_over-clause-value : goal.returns-then-passes_over-clause-value
returns-then-passes_over-clause-value c =
    rw (← c.self.view_is) (none_applies _ _ c.args.text.now c.self.invariant (are_bytes _ c.type_inv.text) (c.passes_over.ensures.none c.if-passes_over.true))

pub invariant_of-self-2 : goal.invariant_of-self-2
invariant_of-self-2 c = still_passes c.self.inside.sieve.program c.passes_over.new.self.program _ _ c.passes_over.ensures.same c.first_rule_in.ensures.same c.self.invariant
