use Rattle.std.proofs.Common.{◌∙◌}
use Rattle.std.proofs.lemmas.Result.{IfOk-weaker}
use Rattle.pf_class.proofs.ListLaws.{says_pushed}
use Rattle.pf_class.proofs.gathering.Gathered.push.Goals as goal

pub returns : goal.returns
returns c =
    IfOk-weaker c.push.result _ _ (λ _ fact. says_pushed _ _ fact (c.replace-names.ensures.after ∙ c.new.ensures)
    (rw c.replace-names.ensures.value at c.in_ok-push_names.ensures)) c.push.ensures.ok
