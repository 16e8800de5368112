use Rattle.std.proofs.Common.{◌∙◌, sym, arith}
use Rattle.pf_cdb.specs.Damaged.{slot_damage}
use Rattle.pf_cdb.proofs.FirstLemmas.{first_found, first_more, first_none}
use Rattle.pf_cdb.proofs.checking.first_in_table.Goals as goal

pub loop-i-init : goal.loop-i-init
loop-i-init c = first_none (slot_damage c.args.kind c.args.file.now c.args.table)

pub loop-i-preserved : goal.loop-i-preserved
loop-i-preserved c =
    first_more c.loop-i.i (slot_damage c.args.kind c.args.file.now c.args.table) c.slot_damage-damage.result c.loop-i.invariant
    c.slot_damage-damage.ensures (sym c.is_some.ensures ∙ c.if-is_some.false)

pub returns-then-is_some : goal.returns-then-is_some
returns-then-is_some c =
    first_found _ c.loop-i.i (slot_damage c.args.kind c.args.file.now c.args.table) c.slot_damage-damage.result (omega arith)
    c.loop-i.invariant c.slot_damage-damage.ensures (sym c.is_some.ensures ∙ c.if-is_some.true)
