use Rattle.std.proofs.Common.{sym, ◌∙◌}
use Rattle.pf_expand.proofs.LevelLaws.{level_limit}
use Rattle.pf_expand.proofs.RoundLaws.{flawed_there}
use Rattle.pf_expand.specs.Clauses.Meanings.{level_value}
use Rattle.pf_expand.proofs.rounds.domain_size.Goals as goal

pub returns-in-Flawed : goal.returns-in-Flawed
returns-in-Flawed c =
    flawed_there (level_value c.args.names.now c.args.sizes.now.levels c.args.host.now) c.in-Flawed.flaw (level_limit c.args.names.now c.args.sizes.now.levels c.args.host.now)
    (sym c.in-Flawed.is ∙ c.size_named.ensures ∙ c.requires c.args.host.now)
