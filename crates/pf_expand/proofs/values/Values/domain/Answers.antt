use Rattle.std.proofs.Common.{ap, ◌∙◌}
use Rattle.std.proofs.lemmas.Result.{IfOk-weaker}
use Rattle.pf_expand.proofs.SourceLaws.{domain_kept}
use Rattle.pf_expand.specs.Clauses.Meanings.{level_value}
use Rattle.pf_expand.specs.Names.{domain_of}
use Rattle.pf_expand.proofs.values.Values.domain.Goals as goal

pub returns : goal.returns
returns c =
    rw (← c.self.view_is)
    (λ sources are. IfOk-weaker c.domain_value.result _ _ (λ value is. is
    ∙ ap (λ host. domain_of (level_value c.self.inside.names c.self.inside.sizes.levels host)) c.in_ok-host.ensures
    ∙ domain_kept c.self.inside.names sources c.self.inside.sizes.levels c.args.host.now are c.self.invariant.1)
    c.domain_value.ensures)
