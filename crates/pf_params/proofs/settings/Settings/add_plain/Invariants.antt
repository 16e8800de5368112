use Rattle.std.proofs.Common.{◌≡◌, drop}
use Rattle.std.specs.List.{fold}
use Rattle.pf_catalogue.specs.Catalogue.{catalogue}
use Rattle.pf_params.specs.Accepted.{with_plain}
use Rattle.pf_params.proofs.settings.Settings.add_plain.Given as goal

abbrev pub invariant-loop-place : goal.invariant-loop-place
invariant-loop-place l = fold (with_plain l.self) l.specs (drop l.place catalogue) ≡ fold (with_plain l.self) l.initial.specs catalogue
