use Rattle.std.proofs.Common.{◌∙◌}
use Rattle.pf_tools.proofs.OrderLaws.{all_asked}
use Rattle.pf_tools.proofs.said.asked.Goals as goal

pub returns-in_ok-names-in-empty-clause-is : goal.returns-in_ok-names-in-empty-clause-is
returns-in_ok-names-in-empty-clause-is c =
    let none = rw c.as_slice.ensures at c.in-empty.len_below in
    rw (c.as_slice-in-empty.ensures ∙ all_asked c.args.words.now c.args.known.now c.in_ok-names-in-empty.names none c.in_ok-names-in-empty.ensures.order) at c.printed_of.ensures.is
