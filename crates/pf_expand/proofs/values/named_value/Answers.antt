use Rattle.std.proofs.Common.{Ok, ◌+◌, sym, ap, ◌∙◌}
use Rattle.pf_expand.proofs.LevelLaws.{level_limit}
use Rattle.pf_expand.proofs.RoundLaws.{long_there}
use Rattle.pf_expand.proofs.ValueLaws.{flawed_limit, long_limit}
use Rattle.pf_expand.specs.Clauses.Meanings.{level_value}
use Rattle.pf_expand.proofs.values.named_value.Goals as goal

pub returns-in-Flawed : goal.returns-in-Flawed
returns-in-Flawed c =
    let n = c.args.sizes.now.levels + 1 in
    sym (flawed_limit (level_value c.args.names.now n c.args.name.now) c.in-Flawed.flaw (sym c.in-Flawed.is ∙ c.in_ok-size.ensures))
    ∙ level_limit c.args.names.now n c.args.name.now

pub write_meaning-requires-clause-there : goal.write_meaning-requires-clause-there
write_meaning-requires-clause-there c =
    long_there (level_value c.args.names.now (c.args.sizes.now.levels + 1) c.args.name.now) c.in-Long.field-0 (sym c.in-Long.is ∙ c.in_ok-size.ensures)

pub returns-in_ok-write_meaning-in-Long : goal.returns-in_ok-write_meaning-in-Long
returns-in_ok-write_meaning-in-Long c =
    let n = c.args.sizes.now.levels + 1 in
    let wrote = rw c.new-value.ensures at c.in_ok-write_meaning-in-Long.ensures in
    ap Ok wrote ∙ sym (long_limit (level_value c.args.names.now n c.args.name.now) c.in-Long.field-0 (sym c.in-Long.is ∙ c.in_ok-size.ensures))
    ∙ level_limit c.args.names.now n c.args.name.now
