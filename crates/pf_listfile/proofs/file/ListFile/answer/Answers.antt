use Rattle.pf_listfile.proofs.AnswerLaws.{place_within, says_nothing, says_here}
use Rattle.pf_listfile.proofs.file.ListFile.answer.Goals as goal

pub at-item-requires : goal.at-item-requires
at-item-requires c = rw c.self.view_is (place_within c.args.self.now c.args.key.now c.in-Some.place (rw c.in-Some.is at c.in_ok-place.ensures))

pub returns-in-None : goal.returns-in-None
returns-in-None c = says_nothing c.args.self.now c.args.key.now (rw c.in-None.is at c.in_ok-place.ensures)

pub returns-in_ok-says-in-Some : goal.returns-in_ok-says-in-Some
returns-in_ok-says-in-Some c =
    says_here c.args.self.now c.args.key.now c.in-Some.place c.at-item.result.now _ (rw c.in-Some.is at c.in_ok-place.ensures) (rw c.self.view_is at c.at-item.ensures) c.in_ok-says-in-Some.ensures
