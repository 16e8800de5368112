use Rattle.std.proofs.Common.{sym, ap, ◌∙◌, arith}
use Rattle.std.proofs.lemmas.List.{drop_all}
use Rattle.std.specs.List.{fold}
use Rattle.pf_params.specs.Accepted.{with_class}
use Rattle.pf_params.proofs.settings.Settings.add_classes.Goals as goal

pub returns : goal.returns
returns c =
    sym (ap (fold with_class c.loop-class.specs) (drop_all c.loop-class.class-index c.classes-class-items.result.now (omega arith))) ∙ c.loop-class.invariant
