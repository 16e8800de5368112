use Rattle.std.proofs.Common.{sym}
use Rattle.std.proofs.lemmas.Result.{err_from_is_err_and}
use Rattle.pf_asks.proofs.LedLaws.{led_refl, tables_can_find}
use Rattle.pf_class.proofs.AskingLaws.{answer_led, memory_first}
use Rattle.pf_class.proofs.Parting.{split_parts, standard_of}
use Rattle.pf_class.proofs.ResolvedLaws.{hears_resolved, way_ends, way_fault, way_memory, way_on, way_stays}
use Rattle.pf_class.specs.Resolved.{resolved}
use Rattle.pf_class.specs.Standard.{address_of}
use Rattle.pf_class.proofs.domains.Domains.resolve.Goals as goal

pub returns-in_err-form : goal.returns-in_err-form
returns-in_err-form g c =
    let p = err_from_is_err_and c.from_residual.result c.from_residual.ensures.1 in
    rw p.1 (memory_first _ (resolved c.args.self.now c.args.address.now) p.0 (hears_resolved c.args.self.now c.args.address.now) p.2)

pub returns-in_err-domain : goal.returns-in_err-domain
returns-in_err-domain g c =
    let p = err_from_is_err_and c.from_residual-in_err-domain.result c.from_residual-in_err-domain.ensures.1 in
    rw p.1 (memory_first _ (resolved c.args.self.now c.args.address.now) p.0 (hears_resolved c.args.self.now c.args.address.now) p.2)

pub ways-init : goal.ways-init
unfolding resolved
ways-init g c = rw (c.as_slice-local.ensures, c.in_ok-domain.ensures, c.in_ok-form.ensures) (λ w. led_refl _ _)

pub local-requires : goal.local-requires
local-requires g c = tables_can_find _ _ (resolved c.args.self.now c.args.address.now) _ c.ways.invariant c.requires

pub ways-smaller : goal.ways-smaller
ways-smaller g c = (split_parts _ _ _ (sym c.in-Some.ensures)).shorter

pub ways-preserved : goal.ways-preserved
ways-preserved g c =
    let parts = address_of c.in-Some.user.now c.in-Some.site.now in
    let on = way_on c.args.self.now _ _ _ _ (address_of c.ways.local.now c.ways.domain) c.ways.routed parts _ (sym c.in-Some.ensures) c.if-own.true c.ways.invariant
    (rw c.as_slice.ensures at c.in_ok-own.ensures) in
    let form = standard_of c.args.self.now.rules parts (split_parts _ _ _ (sym c.in-Some.ensures)).site in
    rw (c.in_ok-domain-2.ensures, c.as_slice-then-own.ensures) (rw form at on)

pub returns-in_err-own : goal.returns-in_err-own
returns-in_err-own g c =
    let p = err_from_is_err_and c.from_residual-in_err-own.result c.from_residual-in_err-own.ensures.1 in
    rw (p.1, p.2) (way_fault c.args.self.now _ _ _ _ (address_of c.ways.local.now c.ways.domain) c.ways.routed (address_of c.in-Some.user.now c.in-Some.site.now) _
    (sym c.in-Some.ensures) c.ways.invariant (rw c.as_slice.ensures at c.in_err-own.ensures))

pub returns-in_err-domain-2 : goal.returns-in_err-domain-2
returns-in_err-domain-2 g c =
    let p = err_from_is_err_and c.from_residual-in_err-domain-2.result c.from_residual-in_err-domain-2.ensures.1 in
    rw p.1 (way_memory c.args.self.now _ _ _ _ (address_of c.ways.local.now c.ways.domain) c.ways.routed (address_of c.in-Some.user.now c.in-Some.site.now) _ p.0
    (sym c.in-Some.ensures) c.if-own.true c.ways.invariant (rw c.as_slice.ensures at c.in_ok-own.ensures) p.2)

pub returns-else-own : goal.returns-else-own
returns-else-own g c =
    answer_led _ _ _ _ c.ends.result
    (way_ends c.args.self.now _ _ _ _ (address_of c.ways.local.now c.ways.domain) c.ways.routed (address_of c.in-Some.user.now c.in-Some.site.now) _
    (sym c.in-Some.ensures) c.if-own.false c.ways.invariant (rw c.as_slice.ensures at c.in_ok-own.ensures))
    c.ends.ensures

pub returns : goal.returns
returns g c =
    answer_led _ _ _ _ c.ends-2.result
    (way_stays c.args.self.now _ _ _ (address_of c.ways.local.now c.ways.domain) c.ways.routed (sym (rw c.in_default.is at c.split.ensures)) c.ways.invariant)
    c.ends-2.ensures
