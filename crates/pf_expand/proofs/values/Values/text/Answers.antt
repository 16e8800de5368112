use Rattle.std.proofs.Common.{◌∙◌}
use Rattle.std.proofs.lemmas.Result.{IfOk-weaker}
use Rattle.pf_expand.proofs.SourceLaws.{value_kept}
use Rattle.pf_expand.proofs.values.Values.text.Goals as goal

pub returns : goal.returns
returns c =
    rw (← c.self.view_is)
    (λ sources are. IfOk-weaker c.value_of.result _ _ (λ value is. is
    ∙ value_kept c.self.inside.names sources c.self.inside.sizes.levels c.args.text.now are c.self.invariant.1)
    c.value_of.ensures)
