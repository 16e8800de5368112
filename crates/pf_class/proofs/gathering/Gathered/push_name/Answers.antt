use Rattle.std.proofs.lemmas.Result.{IfOk-weaker}
use Rattle.pf_class.proofs.ListLaws.{says_name}
use Rattle.pf_class.proofs.gathering.Gathered.push_name.Goals as goal

pub returns : goal.returns
returns c =
    IfOk-weaker c.add.result _ _ (λ _ fact. says_name _ _ _ _ c.in_ok-turn.ensures.excludes fact c.in_ok-turn.ensures.says) c.add.ensures.ok
