use Rattle.std.proofs.Common.{arith}
use Rattle.std.proofs.lemmas.Result.{err_from_is_err_and}
use Rattle.pf_asks.proofs.LedLaws.{led_refl, tables_can_find}
use Rattle.pf_class.proofs.MemberLaws.{value_end, value_fault, value_ok}
use Rattle.pf_class.specs.Members.{first_value}
use Rattle.pf_class.proofs.members.first_value.Goals as goal

pub loop-key-init : goal.loop-key-init
loop-key-init g c = λ w. led_refl _ _

pub look-requires : goal.look-requires
look-requires g c = tables_can_find _ _ (first_value c.args.id.0 c.args.keys.now) _ c.loop-key.invariant c.requires

pub loop-key-preserved : goal.loop-key-preserved
loop-key-preserved g c =
    rw c.in-Absent.is at (value_ok _ _ _ c.args.id.0 c.args.keys.now c.loop-key.key-index _ _ (omega arith) c.key-item.is c.loop-key.invariant (rw c.as_slice.ensures at c.in_ok-found.ensures))

pub returns-in-Value : goal.returns-in-Value
returns-in-Value g c =
    rw c.in-Value.is at (value_ok _ _ _ c.args.id.0 c.args.keys.now c.loop-key.key-index _ _ (omega arith) c.key-item.is c.loop-key.invariant (rw c.as_slice.ensures at c.in_ok-found.ensures))

pub returns-in_err-found : goal.returns-in_err-found
returns-in_err-found g c =
    let p = err_from_is_err_and c.from_residual.result c.from_residual.ensures.1 in
    rw (p.1, p.2) (value_fault _ _ _ c.args.id.0 c.args.keys.now c.loop-key.key-index _ _ (omega arith) c.key-item.is c.loop-key.invariant (rw c.as_slice.ensures at c.in_err-found.ensures))

pub returns : goal.returns
returns g c = value_end _ _ c.args.id.0 c.args.keys.now c.loop-key.key-index (omega arith) c.loop-key.invariant
