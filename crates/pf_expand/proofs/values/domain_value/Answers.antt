use Rattle.std.proofs.Common.{Ok, sym, ap, ◌∙◌}
use Rattle.pf_expand.proofs.LevelLaws.{level_limit}
use Rattle.pf_expand.proofs.RoundLaws.{long_there}
use Rattle.pf_expand.proofs.ValueLaws.{flawed_limit, long_limit}
use Rattle.pf_expand.specs.Clauses.Meanings.{level_value}
use Rattle.pf_expand.specs.Names.{domain_in, domain_of}
use Rattle.pf_expand.proofs.values.domain_value.Goals as goal

pub returns-in-Flawed : goal.returns-in-Flawed
returns-in-Flawed c =
    let value = level_value c.args.names.now c.args.sizes.now.levels c.args.host.now in
    ap domain_of (sym (flawed_limit value c.in-Flawed.flaw (sym c.in-Flawed.is ∙ c.size_named.ensures ∙ c.requires c.args.host.now))
    ∙ level_limit c.args.names.now c.args.sizes.now.levels c.args.host.now)

pub write_name-requires-clause-there : goal.write_name-requires-clause-there
write_name-requires-clause-there c =
    long_there (level_value c.args.names.now c.args.sizes.now.levels c.args.host.now) c.in-Long.field-0
    (sym c.in-Long.is ∙ c.size_named.ensures ∙ c.requires c.args.host.now)

pub returns-in_ok-domain-in-Long : goal.returns-in_ok-domain-in-Long
returns-in_ok-domain-in-Long c =
    let value = level_value c.args.names.now c.args.sizes.now.levels c.args.host.now in
    let wrote = rw c.new-value.ensures at c.in_ok-write_name-in-Long.ensures in
    ap Ok (c.in_ok-domain-in-Long.ensures ∙ c.domain_in.ensures ∙ ap domain_in (c.as_slice.ensures ∙ wrote))
    ∙ ap domain_of (sym (long_limit value c.in-Long.field-0 (sym c.in-Long.is ∙ c.size_named.ensures ∙ c.requires c.args.host.now))
    ∙ level_limit c.args.names.now c.args.sizes.now.levels c.args.host.now)
