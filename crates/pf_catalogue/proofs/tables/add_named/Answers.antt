use Rattle.std.proofs.Common.{◌+◌, drop, subst, sym, arith}
use Rattle.pf_catalogue.proofs.AddingLemmas.{added_more, drop_item}
use Rattle.pf_catalogue.specs.Clauses.Adding.{AddsUpTo}
use Rattle.pf_catalogue.specs.Tables.{tables_named}
use Rattle.pf_catalogue.proofs.tables.add_named.Goals as goal
use Rattle.pf_catalogue.proofs.tables.add_named.Goals.{in-Some+in_ok-add, in_default}

pub loop-item-preserved : goal.loop-item-preserved
loop-item-preserved c =
    let items = c.args.items.now in
    let first = drop_item items c.loop-item.item-index c.item-item.result (omega arith) c.item-item.is in
    let found = rw c.as_slice.ensures at c.table_in.ensures in
    let so_far = subst (λ left. AddsUpTo c.args.line c.args.specs.now c.loop-item.specs (tables_named items) (tables_named left)) first c.loop-item.invariant in
    elim c.match-table_in.branch [
      | in-Some+in_ok-add w ↦ rw w.specs-is
          (added_more c.args.line c.args.specs.now c.loop-item.specs w.add.new.specs (tables_named items) (tables_named (drop (c.loop-item.item-index + 1) items)) w.in-Some.text.now
          (rw (sym (rw w.in-Some.is at found)) at so_far) w.in_ok-add.ensures.ok)
      | in_default w ↦ rw (w.specs-is) (rw (sym (rw w.in_default.is at found)) at so_far)
    ]
