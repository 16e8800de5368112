use Rattle.std.proofs.Common.{◌+◌, ap, ◌∙◌}
use Rattle.std.proofs.lemmas.Result.{IfOk-weaker}
use Rattle.pf_expand.proofs.SourceLaws.{name_kept}
use Rattle.pf_expand.specs.Clauses.Meanings.{level_value}
use Rattle.pf_expand.proofs.values.Values.name.Goals as goal

pub returns : goal.returns
returns c =
    rw (← c.self.view_is)
    (λ sources are. IfOk-weaker c.named_value.result _ _ (λ value is. is
    ∙ ap (level_value c.self.inside.names (c.self.inside.sizes.levels + 1)) c.in_ok-name.ensures
    ∙ name_kept c.self.inside.names sources c.self.inside.sizes.levels c.args.name.now are c.self.invariant.1)
    c.named_value.ensures)
