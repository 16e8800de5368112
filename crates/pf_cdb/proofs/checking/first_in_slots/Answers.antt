use Rattle.std.proofs.Common.{◌≡◌, ◌∙◌, sym, subst, None, arith}
use Rattle.pf_cdb.specs.Damaged.{first_below, first_in_slots, slot_damage}
use Rattle.pf_cdb.specs.Layout.{slots_in}
use Rattle.pf_cdb.proofs.FirstLemmas.{first_found, first_more, first_none}
use Rattle.pf_cdb.proofs.checking.first_in_slots.Goals as goal

pub loop-table-init : goal.loop-table-init
loop-table-init c = first_none (λ table. first_below (slots_in c.args.file.now table) (slot_damage c.args.kind c.args.file.now table))

pub loop-table-preserved : goal.loop-table-preserved
loop-table-preserved c =
    first_more c.loop-table.table (λ table. first_below (slots_in c.args.file.now table) (slot_damage c.args.kind c.args.file.now table))
    c.first_in_table-damage.result c.loop-table.invariant c.first_in_table-damage.ensures (sym c.is_some.ensures ∙ c.if-is_some.false)

pub returns-then-is_some : goal.returns-then-is_some
unfolding first_in_slots
returns-then-is_some c =
    first_found 256 c.loop-table.table (λ table. first_below (slots_in c.args.file.now table) (slot_damage c.args.kind c.args.file.now table))
    c.first_in_table-damage.result (omega arith) c.loop-table.invariant c.first_in_table-damage.ensures
    (sym c.is_some.ensures ∙ c.if-is_some.true)

pub returns : goal.returns
unfolding first_in_slots
returns c =
    let end : c.loop-table.table ≡ 256 = omega arith in
    sym (subst (λ n. first_below n (λ table. first_below (slots_in c.args.file.now table) (slot_damage c.args.kind c.args.file.now table)) ≡ None)
    end c.loop-table.invariant)
