use Rattle.std.proofs.Common.{true, refl, ◌∙◌, arith}
use Rattle.pf_maps.proofs.MeaningLaws.{partial_step}
use Rattle.pf_maps.proofs.walk.+parts.Goals as goal

pub all_partial-members-preserved : goal.all_partial-members-preserved
all_partial-members-preserved t c = (
  partial_step c.members.more c.members.left.now c.behind_table-left.result.now true (λ e. omega (arith, c.members-test.true, e))
      c.behind_table-left.ensures.is c.if-not-has_partial_keys.ensures refl ∙ c.members.invariant.0,
  omega (arith, c.behind_table-left.ensures.shorter, c.members.invariant.1),
)
