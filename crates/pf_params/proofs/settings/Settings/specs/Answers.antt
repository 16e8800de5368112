use Rattle.std.proofs.Common.{ap, ◌∙◌}
use Rattle.std.specs.List.{fold}
use Rattle.pf_catalogue.specs.Catalogue.{catalogue}
use Rattle.pf_params.specs.Accepted.{classes_in, restriction_lists, with_class, with_named, with_plain}
use Rattle.pf_params.proofs.settings.Settings.specs.Goals as goal

pub returns : goal.returns
returns c =
    let s = c.args.self.now in
    c.in_ok-add_classes.ensures
    ∙ ap (λ specs. fold with_class specs (classes_in s)) (c.in_ok-add_lists.ensures
    ∙ ap (λ specs. fold (with_named s) specs restriction_lists) (c.in_ok-add_plain.ensures
    ∙ ap (λ specs. fold (with_plain s) specs catalogue) (rw (c.in_ok-copy.ensures, c.file.ensures) at c.new-specs.ensures)))
