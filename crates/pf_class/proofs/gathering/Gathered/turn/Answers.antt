use Rattle.pf_class.proofs.ListLaws.{says_closed}
use Rattle.pf_class.proofs.gathering.Gathered.turn.Goals as goal

pub returns-clause-says : goal.returns-clause-says
returns-clause-says c =
    rw (c.replace-names.ensures.after, c.new.ensures) (says_closed _ (rw c.replace-names.ensures.value at c.in_ok-push_names.ensures))
