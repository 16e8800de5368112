use Rattle.std.proofs.Common.{◌≡◌, drop}
use Rattle.pf_catalogue.specs.Catalogue.{catalogue}
use Rattle.pf_params.specs.Clauses.Readings.{before, readings_of}
use Rattle.pf_params.proofs.readings.readings_of.Given as goal

abbrev pub invariant-loop-place : goal.invariant-loop-place
invariant-loop-place l = before l.readings (readings_of l.known (drop l.place catalogue)) ≡ readings_of l.known catalogue
