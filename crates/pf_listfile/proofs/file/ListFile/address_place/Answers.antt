use Rattle.pf_listfile.proofs.AnswerLaws.{no_address}
use Rattle.pf_listfile.proofs.file.ListFile.address_place.Goals as goal

pub returns-in-None : goal.returns-in-None
returns-in-None c = rw c.in-None.is (no_address c.args.self.now)
