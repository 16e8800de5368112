use Rattle.std.proofs.Common.{arith}
use Rattle.std.proofs.lemmas.Result.{err_from_is_err_and}
use Rattle.pf_asks.proofs.LedLaws.{led_refl, tables_can_find}
use Rattle.pf_class.proofs.MemberLaws.{can_find_item, member_end, member_fault, member_ok}
use Rattle.pf_class.specs.Members.{is_member}
use Rattle.pf_class.proofs.members.is_member.Goals as goal

pub loop-item-init : goal.loop-item-init
loop-item-init g c = λ w. led_refl _ _

pub item_says-requires : goal.item_says-requires
item_says-requires g c =
    can_find_item _ c.args.items.now c.loop-item.item-index _ (omega arith) c.item-item.is
    (tables_can_find _ _ (is_member c.args.items.now c.args.subject.now) _ c.loop-item.invariant c.requires)

pub loop-item-preserved : goal.loop-item-preserved
loop-item-preserved g c =
    rw c.in_default.is at (member_ok _ _ _ c.args.items.now c.args.subject.now c.loop-item.item-index _ _ (omega arith) c.item-item.is c.loop-item.invariant c.in_ok-says.ensures)

pub returns-in-Some : goal.returns-in-Some
returns-in-Some g c =
    rw c.in-Some.is at (member_ok _ _ _ c.args.items.now c.args.subject.now c.loop-item.item-index _ _ (omega arith) c.item-item.is c.loop-item.invariant c.in_ok-says.ensures)

pub returns-in_err-says : goal.returns-in_err-says
returns-in_err-says g c =
    let p = err_from_is_err_and c.from_residual.result c.from_residual.ensures.1 in
    rw (p.1, p.2) (member_fault _ _ _ c.args.items.now c.args.subject.now c.loop-item.item-index _ _ (omega arith) c.item-item.is c.loop-item.invariant c.in_err-says.ensures)

pub returns : goal.returns
returns g c = member_end _ _ c.args.items.now c.args.subject.now c.loop-item.item-index (omega arith) c.loop-item.invariant
