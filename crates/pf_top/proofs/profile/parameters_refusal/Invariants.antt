use Rattle.std.proofs.Common.{◌≡◌, drop}
use Rattle.pf_catalogue.specs.Catalogue.{catalogue}
use Rattle.pf_top.specs.Profile.{first_refused}
use Rattle.pf_top.proofs.profile.parameters_refusal.Given as goal

abbrev pub invariant-loop-place : goal.invariant-loop-place
invariant-loop-place l = first_refused l.known (drop l.place catalogue) ≡ first_refused l.known catalogue
