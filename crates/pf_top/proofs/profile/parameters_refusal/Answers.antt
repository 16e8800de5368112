use Rattle.std.proofs.Common.{◌≡◌, ◌+◌, drop, sym, ap, ◌∙◌, arith}
use Rattle.std.specs.Option.{option_or}
use Rattle.pf_catalogue.specs.Catalogue.{catalogue}
use Rattle.pf_catalogue.specs.declared.count.TheConstants.{PARAMS}
use Rattle.pf_params.proofs.CatalogueLaws.{drop_row, ended}
use Rattle.pf_top.specs.Profile.{first_refused}
use Rattle.pf_top.proofs.profile.parameters_refusal.Goals as goal

pub returns-in-Some : goal.returns-in-Some
returns-in-Some c =
    let rest = first_refused c.args.known.now (drop (c.loop-place.place + 1) catalogue) in
    let there = rw (c.in-Some.is, c.at.ensures) at c.in_ok-refusal.ensures in
    ap (λ o. option_or o rest) there
    ∙ ap (first_refused c.args.known.now) (sym (drop_row c.loop-place.place c.loop-place-test.true))
    ∙ c.loop-place.invariant

pub returns : goal.returns
returns c =
    let last : c.loop-place.place ≡ PARAMS = omega arith in
    ap (first_refused c.args.known.now) (sym ended ∙ ap (λ n. drop n catalogue) (sym last)) ∙ c.loop-place.invariant
