use Rattle.std.proofs.Common.{◌≡◌, drop}
use Rattle.std.specs.List.{fold}
use Rattle.pf_params.specs.Accepted.{classes_in, with_class}
use Rattle.pf_params.proofs.settings.Settings.add_classes.Given as goal

abbrev pub invariant-loop-class : goal.invariant-loop-class
invariant-loop-class l = fold with_class l.specs (drop l.class-index l.class-items) ≡ fold with_class l.initial.specs (classes_in l.self)
