use Rattle.std.proofs.Common.{◌∙◌}
use Rattle.pf_cidr.specs.Tables.{table_of}
use Rattle.pf_maps.proofs.SizeLaws.{as_refused, small_cidr, small_fault}
use Rattle.pf_maps.proofs.opening.open_cidr.Goals as goal

pub returns-clause-small : goal.returns-clause-small
returns-clause-small g c =
    rw c.of.ensures (small_fault _ c.in-Err.fault (small_cidr c.args.name.now c.as_slice.result.now)
    (λ other. c.in-Err.ensures other ∙ as_refused (table_of c.args.name.now c.as_slice.result.now)))
