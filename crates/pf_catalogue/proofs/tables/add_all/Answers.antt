use Rattle.std.proofs.Common.{◌+◌, drop, subst, arith}
use Rattle.pf_catalogue.proofs.AddingLemmas.{added_more, drop_item}
use Rattle.pf_catalogue.specs.Clauses.Adding.{AddsUpTo}
use Rattle.pf_catalogue.proofs.tables.add_all.Goals as goal

pub loop-item-preserved : goal.loop-item-preserved
loop-item-preserved c =
    let items = c.args.items.now in
    let first = drop_item items c.loop-item.item-index c.item-item.result (omega arith) c.item-item.is in
    added_more c.args.line c.args.specs.now c.loop-item.specs c.add.new.specs items (drop (c.loop-item.item-index + 1) items) c.item-item.result
    (subst (AddsUpTo c.args.line c.args.specs.now c.loop-item.specs items) first c.loop-item.invariant) (rw c.as_slice.ensures at c.in_ok-add.ensures.ok)
