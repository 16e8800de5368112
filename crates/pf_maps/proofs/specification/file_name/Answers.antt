use Rattle.pf_maps.proofs.SpecLemmas.{file_named, file_unnamed}
use Rattle.pf_maps.proofs.specification.file_name.Goals as goal

pub returns-in_default : goal.returns-in_default
returns-in_default c = file_unnamed c.args.name.now c.in_default.ensures.cases.0

pub returns : goal.returns
returns c = rw c.in_ok-from_slice.ensures (file_named c.args.name.now c.in-Ok.ensures.cases.1)
