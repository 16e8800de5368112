use Rattle.std.proofs.Common.{◌∙◌, arith}
use Rattle.pf_base.proofs.Parts.{take_part}
use Rattle.pf_base.proofs.outside.reading.read_up_to.Goals as goal

pub parts-preserved : goal.parts-preserved
parts-preserved g c = (
  λ all known. take_part _ _ _ _ (c.parts.invariant.0 all known) (c.in_ok-read_part.ensures.known all (c.parts.invariant.2 ∙ known)).new_is c.in_ok-read_part.ensures.count,
  omega (arith, c.in_ok-read_part.ensures.count, c.in_ok-read_part.ensures.room),
  c.in_ok-read_part.ensures.tree.same ∙ c.parts.invariant.2,
  c.in_ok-read_part.ensures.tree.kept ∙ c.parts.invariant.3,
)
