use Rattle.std.proofs.Common.{ap, ◌∙◌}
use Rattle.std.specs.Prelude.{slice_range}
use Rattle.std.specs.Option.{option_map}
use Rattle.pf_cdb.proofs.PairLaws.{value_of_key}
use Rattle.pf_cdb.proofs.search.find.Goals as goal

pub returns-clause-value : goal.returns-clause-value
returns-clause-value c =
    ap (option_map (λ span. slice_range c.args.file.now span.start span.end)) c.find_span.ensures.span ∙ value_of_key c.args.file.now c.args.key.now c.requires
