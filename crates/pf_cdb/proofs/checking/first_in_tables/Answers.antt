use Rattle.std.proofs.Common.{◌≡◌, ◌∙◌, sym, subst, None, arith}
use Rattle.pf_cdb.specs.Damaged.{first_below, first_in_tables, table_damage}
use Rattle.pf_cdb.proofs.FirstLemmas.{first_found, first_more, first_none}
use Rattle.pf_cdb.proofs.checking.first_in_tables.Goals as goal

pub loop-table-init : goal.loop-table-init
loop-table-init c = first_none (table_damage c.args.file.now)

pub loop-table-preserved : goal.loop-table-preserved
loop-table-preserved c =
    first_more c.loop-table.table (table_damage c.args.file.now) c.table_damage-damage.result c.loop-table.invariant c.table_damage-damage.ensures
    (sym c.is_some.ensures ∙ c.if-is_some.false)

pub returns-then-is_some : goal.returns-then-is_some
unfolding first_in_tables
returns-then-is_some c =
    first_found 256 c.loop-table.table (table_damage c.args.file.now) c.table_damage-damage.result (omega arith) c.loop-table.invariant
    c.table_damage-damage.ensures (sym c.is_some.ensures ∙ c.if-is_some.true)

pub returns : goal.returns
unfolding first_in_tables
returns c =
    let end : c.loop-table.table ≡ 256 = omega arith in
    sym (subst (λ n. first_below n (table_damage c.args.file.now) ≡ None) end c.loop-table.invariant)
