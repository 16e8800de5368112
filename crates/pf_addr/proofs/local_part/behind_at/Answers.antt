use Rattle.std.proofs.Common.{◌∙◌, sym, arith}
use Rattle.std.proofs.lemmas.Bool.{ne_eqb, eq-eqb}
use Rattle.pf_addr.proofs.AtLemmas.{behind_at_before, behind_at_last}
use Rattle.pf_addr.proofs.local_part.behind_at.Goals as goal

pub loop-end-preserved : goal.loop-end-preserved
loop-end-preserved c = (
  omega arith,
  c.loop-end.invariant.1 ∙ behind_at_before _ _ (omega arith) c.loop-end.invariant.0 (ne_eqb _ 64 c.if-text-end-ne64.true),
)

pub returns-else-text-end-ne64-clause-place : goal.returns-else-text-end-ne64-clause-place
returns-else-text-end-ne64-clause-place c =
    sym (c.loop-end.invariant.1 ∙ behind_at_last _ _ (omega arith) c.loop-end.invariant.0 (eq-eqb _ 64 c.if-text-end-ne64.false))
