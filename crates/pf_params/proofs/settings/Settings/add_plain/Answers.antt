use Rattle.std.proofs.Common.{◌≡◌, ◌+◌, drop, sym, ap, ◌∙◌, arith}
use Rattle.std.specs.List.{fold}
use Rattle.pf_catalogue.specs.Catalogue.{catalogue}
use Rattle.pf_catalogue.specs.declared.count.TheConstants.{PARAMS}
use Rattle.pf_params.proofs.CatalogueLaws.{drop_row, ended}
use Rattle.pf_params.specs.Accepted.{with_plain}
use Rattle.pf_params.proofs.settings.Settings.add_plain.Goals as goal

pub loop-place-preserved : goal.loop-place-preserved
loop-place-preserved c =
    ap (λ specs. fold (with_plain c.args.self.now) specs (drop (c.loop-place.place + 1) catalogue)) (rw c.at.ensures at c.in_ok-add_if_plain.ensures)
    ∙ sym (ap (fold (with_plain c.args.self.now) c.loop-place.specs) (drop_row c.loop-place.place c.loop-place-test.true))
    ∙ c.loop-place.invariant

pub returns : goal.returns
returns c =
    let last : c.loop-place.place ≡ PARAMS = omega arith in
    sym (ap (fold (with_plain c.args.self.now) c.loop-place.specs) (ap (λ n. drop n catalogue) last ∙ ended)) ∙ c.loop-place.invariant
