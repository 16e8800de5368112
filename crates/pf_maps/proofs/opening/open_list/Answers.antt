use Rattle.pf_maps.proofs.SizeLaws.{small_fault, small_list}
use Rattle.pf_maps.proofs.opening.open_list.Goals as goal

pub returns-clause-small : goal.returns-clause-small
returns-clause-small g c =
    rw c.of.ensures (small_fault _ c.in-Err.fault (small_list c.args.name.now c.as_slice.result.now) c.in-Err.ensures)
