use Rattle.std.proofs.Common.{◌≡◌, ◌+◌, ◌-◌, ◌<◌, ℕ, drop, subst, arith}
use Rattle.pf_catalogue.specs.Catalogue.{catalogue}
use Rattle.pf_expand.specs.Clauses.Meanings.{AreNames}
use Rattle.pf_params.proofs.DefaultLaws.{no_default_values, default_value_more}
use Rattle.pf_params.specs.Sources.{default_value_among}
use Rattle.pf_params.proofs.table.set_default_values.Goals as goal

pub loop-left-init : goal.loop-left-init
loop-left-init c = (omega arith, no_default_values c.args.names.now)

one_less : (left : ℕ) → 0 < left → left ≡ left - 1 + 1
one_less left h = omega (arith, h)

pub loop-left-preserved : goal.loop-left-preserved
loop-left-preserved c = (
  omega (arith, c.loop-left.invariant.0),
  λ empty.
      let set = rw c.at.ensures at c.in_ok-set_default_value.ensures in
      let family : ℕ → Type 0 = λ n. AreNames c.loop-left.names (default_value_among (drop n catalogue)) in
      default_value_more c.set_default_value.new.names (c.loop-left.left - 1) (omega (arith, c.loop-left.invariant.0, c.loop-left-test.true))
      (set (default_value_among (drop (c.loop-left.left - 1 + 1) catalogue)) (subst family (one_less c.loop-left.left c.loop-left-test.true) (c.loop-left.invariant.1 empty))),
)
