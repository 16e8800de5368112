use Rattle.std.proofs.Common.{◌+◌, drop, subst, arith}
use Rattle.pf_catalogue.proofs.AddingLemmas.{added_more, drop_item}
use Rattle.pf_catalogue.specs.Clauses.Adding.{AddsUpTo}
use Rattle.pf_catalogue.specs.Tables.{table_arguments}
use Rattle.pf_catalogue.specs.declared.arguments.Argument.TheVariants.{Nothing}
use Rattle.pf_catalogue.proofs.tables.add_arguments.Goals as goal
use Rattle.pf_catalogue.proofs.tables.add_arguments.Goals.{in-Nothing, in-Text, in-Table+in_ok-add-in-Table}

pub loop-item-preserved : goal.loop-item-preserved
loop-item-preserved c =
    let items = c.args.items.now in
    let all = table_arguments c.args.kind Nothing items in
    let first = drop_item items c.loop-item.item-index c.item-item.result (omega arith) c.item-item.is in
    let so_far = subst (λ left. AddsUpTo c.args.line c.args.specs.now c.loop-item.specs all (table_arguments c.args.kind c.loop-item.wanted left)) first c.loop-item.invariant in
    elim c.match-wanted.branch [
      | in-Nothing w ↦ rw (w.specs-is, w.wanted-is, w.argument_of-wanted.ensures, w.as_slice.ensures) (rw w.in-Nothing.is at so_far)
      | in-Text w ↦ rw (w.specs-is, w.wanted-is) (rw w.in-Text.is at so_far)
      | in-Table+in_ok-add-in-Table w ↦ rw (w.specs-is, w.wanted-is)
          (added_more c.args.line c.args.specs.now c.loop-item.specs w.add.new.specs all (table_arguments c.args.kind Nothing (drop (c.loop-item.item-index + 1) items)) c.item-item.result
          (rw w.in-Table.is at so_far) (rw w.as_slice-in-Table.ensures at w.in_ok-add-in-Table.ensures.ok))
    ]
