use Rattle.std.proofs.Common.{◌-◌, ◌∙◌, ap, arith, drop}
use Rattle.pf_maps.proofs.MeaningLaws.{drop_less, left_next}
use Rattle.pf_maps.specs.Meanings.{meanings_of}
use Rattle.pf_maps.proofs.walk.+passing.Goals as goal

pub behind_tables-tables-preserved : goal.behind_tables-tables-preserved
behind_tables-tables-preserved t c = (
  ap (drop (c.tables.more - 1)) c.behind_table-left.ensures.is ∙ drop_less c.tables.more (meanings_of c.tables.left.now) (λ e. omega (arith, c.tables-test.true, e)) ∙ c.tables.invariant.0,
  (
    omega (arith, c.behind_table-left.ensures.shorter, c.tables.invariant.1.0),
    left_next c.args.nodes.now c.tables.left.now c.behind_table-left.result.now c.tables.invariant.1.0 (omega (arith, c.behind_table-left.ensures.shorter))
        c.tables.invariant.1.1 c.behind_table-left.ensures.suffix,
  ),
)
