use Rattle.pf_listfile.proofs.AnswerLaws.{plain_at}
use Rattle.pf_listfile.proofs.file.ListFile.plain_place.Goals as goal

pub returns : goal.returns
returns c =
    let host = rw (c.as_slice.ensures, c.in_ok-host.ensures) at c.host_place.ensures in
    let address = rw c.read.ensures.is at c.address_place.ensures in
    plain_at c.args.self.now c.args.key.now c.host_place.result c.address_place.result c.earlier.result host address c.earlier.ensures
