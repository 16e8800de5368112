use Rattle.std.proofs.Common.{◌%◌, ◌≤◌, ap, ◌∙◌, sym, arith}
use Rattle.pf_cdb.proofs.SearchLaws.{left_done, left_start, turn}
use Rattle.pf_cdb.specs.Layout.{key_at, slots_in}
use Rattle.pf_cdb.proofs.repeats.holder.Goals as goal

pub loop-step-init : goal.loop-step-init
loop-step-init c = rw c.requires.named.hash (left_start c.args.file.now (key_at c.args.file.now c.args.own.at))

pub returns-in-Empty : goal.returns-in-Empty
returns-in-Empty c =
    sym (turn c.args.file.now (key_at c.args.file.now c.args.own.at) c.args.own.hash c.table_of-table.result c.tried_slot-i.result c.loop-step.step c.slots_in-slots.result
    c.slot_at-slot.result _ c.table_of-table.ensures.table c.slots_in-slots.ensures c.tried_slot-i.ensures.slot c.slot_at-slot.ensures
    c.loop-step-test.true (sym c.in-Empty.is ∙ c.look_for.ensures))
    ∙ c.loop-step.invariant

pub returns-in-Found : goal.returns-in-Found
returns-in-Found c =
    sym (turn c.args.file.now (key_at c.args.file.now c.args.own.at) c.args.own.hash c.table_of-table.result c.tried_slot-i.result c.loop-step.step c.slots_in-slots.result
    c.slot_at-slot.result _ c.table_of-table.ensures.table c.slots_in-slots.ensures c.tried_slot-i.ensures.slot c.slot_at-slot.ensures
    c.loop-step-test.true (sym c.in-Found.is ∙ c.look_for.ensures))
    ∙ c.loop-step.invariant

pub loop-step-preserved : goal.loop-step-preserved
loop-step-preserved c =
    sym (turn c.args.file.now (key_at c.args.file.now c.args.own.at) c.args.own.hash c.table_of-table.result c.tried_slot-i.result c.loop-step.step c.slots_in-slots.result
    c.slot_at-slot.result _ c.table_of-table.ensures.table c.slots_in-slots.ensures c.tried_slot-i.ensures.slot c.slot_at-slot.ensures
    c.loop-step-test.true (sym c.in-Other.is ∙ c.look_for.ensures))
    ∙ c.loop-step.invariant

pub returns : goal.returns
returns c =
    let end : slots_in c.args.file.now (c.args.own.hash % 256) ≤ c.loop-step.step =
    omega (arith, c.slots_in-slots.ensures, ap (slots_in c.args.file.now) c.table_of-table.ensures.table) in
    sym (left_done c.args.file.now (key_at c.args.file.now c.args.own.at) c.args.own.hash c.loop-step.step end) ∙ c.loop-step.invariant
