use Rattle.std.proofs.Common.{◌∙◌, sym, arith}
use Rattle.pf_cdb.proofs.HeldLaws.{held_lies, span_within}
use Rattle.pf_cdb.proofs.search.find_span.Goals as goal

pub value_span-requires : goal.value_span-requires
value_span-requires c =
    let lies = held_lies c.args.file.now c.args.key.now c.in-Some.at c.requires (sym c.find_record.ensures ∙ c.in-Some.is) in omega arith

pub returns-in-Some-clause-within : goal.returns-in-Some-clause-within
returns-in-Some-clause-within c =
    rw c.value_span.ensures (span_within c.args.file.now c.in-Some.at
    (held_lies c.args.file.now c.args.key.now c.in-Some.at c.requires (sym c.find_record.ensures ∙ c.in-Some.is)))
