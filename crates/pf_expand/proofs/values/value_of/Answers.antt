use Rattle.std.proofs.Common.{Ok, sym, ap, ◌∙◌}
use Rattle.pf_expand.proofs.RoundLaws.{long_there}
use Rattle.pf_expand.proofs.ValueLaws.{flawed_limit, long_limit, pieces_run, value_of_bad, value_of_tokens}
use Rattle.pf_expand.specs.Clauses.Meanings.{level_value}
use Rattle.pf_expand.specs.Clauses.Runs.{run}
use Rattle.pf_expand.specs.declared.run.Mode.TheVariants.{Counts}
use Rattle.pf_expand.proofs.values.value_of.Goals as goal

pub returns-in_default : goal.returns-in_default
returns-in_default c = sym (value_of_bad (level_value c.args.names.now c.args.sizes.now.levels) c.args.text.now (sym c.in_ok-tokens.ensures ∙ c.in_default.is))

pub returns-in-Flawed : goal.returns-in-Flawed
returns-in-Flawed c =
    let v = level_value c.args.names.now c.args.sizes.now.levels in
    sym (value_of_tokens v c.args.text.now c.in-Some.tokens (sym c.in_ok-tokens.ensures ∙ c.in-Some.is)
    ∙ flawed_limit (run v Counts c.in-Some.tokens) c.in-Flawed.flaw
    (sym c.in-Flawed.is ∙ rw c.as_slice.ensures at c.pieces_size.ensures ∙ pieces_run c.args.names.now c.args.sizes.now c.in-Some.tokens c.requires))

pub write_pieces-requires-clause-there : goal.write_pieces-requires-clause-there
write_pieces-requires-clause-there c =
    let v = level_value c.args.names.now c.args.sizes.now.levels in
    rw c.as_slice-in-Long.ensures (long_there (run v Counts c.in-Some.tokens) c.in-Long.field-0
    (sym c.in-Long.is ∙ rw c.as_slice.ensures at c.pieces_size.ensures ∙ pieces_run c.args.names.now c.args.sizes.now c.in-Some.tokens c.requires))

pub returns : goal.returns
returns c =
    let v = level_value c.args.names.now c.args.sizes.now.levels in
    let wrote = rw (c.new-value.ensures, c.as_slice-in-Long.ensures) at c.in_ok-write_pieces-in-Long.ensures in
    ap Ok wrote
    ∙ sym (value_of_tokens v c.args.text.now c.in-Some.tokens (sym c.in_ok-tokens.ensures ∙ c.in-Some.is)
    ∙ long_limit (run v Counts c.in-Some.tokens) c.in-Long.field-0
    (sym c.in-Long.is ∙ rw c.as_slice.ensures at c.pieces_size.ensures ∙ pieces_run c.args.names.now c.args.sizes.now c.in-Some.tokens c.requires))
