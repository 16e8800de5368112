use Rattle.std.proofs.Common.{length, take, ap, ◌∙◌, sym, arith}
use Rattle.std.proofs.lemmas.List.{length-map, take_all}
use Rattle.pf_cdb.proofs.BucketLaws.{by_table_none, length_by_table}
use Rattle.pf_cdb.specs.Written.{by_table}
use Rattle.pf_cdb.proofs.tables.sort_slots.Goals as goal

pub loop-slot-init : goal.loop-slot-init
loop-slot-init c = c.in_ok-buckets.ensures ∙ sym by_table_none

pub add_slot-requires : goal.add_slot-requires
add_slot-requires c =
    sym (length-map c.loop-slot.buckets.items (λ v. v.items))
    ∙ ap length c.loop-slot.invariant
    ∙ length_by_table (take c.loop-slot.slot-index c.args.slots.now)

pub returns : goal.returns
returns c = c.loop-slot.invariant ∙ ap by_table (take_all c.loop-slot.slot-index c.args.slots.now (omega arith))
