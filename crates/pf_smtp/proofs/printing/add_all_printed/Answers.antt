use Rattle.std.proofs.Common.{◌++◌, ap, ◌∙◌, arith}
use Rattle.std.proofs.lemmas.List.{take_all}
use Rattle.std.specs.List.{flat_map}
use Rattle.pf_base.specs.Text.Printing.{printed}
use Rattle.pf_smtp.proofs.PrintingLemmas.{printed_parts}
use Rattle.pf_smtp.proofs.printing.add_all_printed.Goals as goal

pub returns : goal.returns
returns c =
    let parts = c.args.parts.now in
    let all = take_all c.loop-part.part-index parts (omega arith) in
    c.loop-part.invariant ∙ ap (λ text. c.args.text.now ++ text) (ap (flat_map (λ part. printed part.now)) all ∙ printed_parts (λ part. part.now) parts)
