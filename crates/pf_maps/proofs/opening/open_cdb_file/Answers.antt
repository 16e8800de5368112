use Rattle.pf_maps.proofs.SizeLaws.{small_cdb, small_fault}
use Rattle.pf_maps.proofs.opening.open_cdb_file.Goals as goal

pub returns-in-Err-clause-small : goal.returns-in-Err-clause-small
returns-in-Err-clause-small g c =
    rw c.of.ensures (small_fault _ c.in-Err.fault (small_cdb c.args.file.now c.args.folded c.in_ok-bytes.bytes) c.in-Err.ensures)
