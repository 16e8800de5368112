use Rattle.std.proofs.Common.{◌+◌, ◌∙◌, ap, sym, arith}
use Rattle.std.specs.List.{sum_by}
use Rattle.std.proofs.lemmas.List.{take_all}
use Rattle.pf_cdb.proofs.SizeLaws.{entry_size, size_written, too_large_at}
use Rattle.pf_cdb.proofs.sizing.size_of.Goals as goal

pub returns-in_default-clause-none : goal.returns-in_default-clause-none
returns-in_default-clause-none c =
    too_large_at c.args.entries.now c.loop-pair.pair-index c.pair-item.result c.loop-pair.size c.loop-pair-test.true c.pair-item.is
    c.loop-pair.invariant.at_is c.in_default.ensures.none

pub returns-clause-some : goal.returns-clause-some
returns-clause-some c =
    let all = take_all c.loop-pair.pair-index c.args.entries.now (omega arith) in (
      c.loop-pair.invariant.at_is ∙ ap (λ l. 2048 + sum_by entry_size l) all ∙ sym (size_written c.args.entries.now),
      c.loop-pair.invariant.low,
    )
