use Rattle.pf_maps.proofs.SizeLaws.{small_fault, small_text}
use Rattle.pf_table.specs.declared.pairs.Repeats.TheVariants.{First}
use Rattle.pf_maps.proofs.opening.open_text.Goals as goal

pub returns-clause-small : goal.returns-clause-small
returns-clause-small g c =
    rw c.of.ensures (small_fault _ c.in-Err.fault (small_text c.args.name.now c.args.folded First c.as_slice.result.now) c.in-Err.ensures.is)
