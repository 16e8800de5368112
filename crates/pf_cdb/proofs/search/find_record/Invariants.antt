use Rattle.std.proofs.Common.{◌≡◌}
use Rattle.pf_cdb.specs.Held.{held}
use Rattle.pf_cdb.proofs.SearchLaws.{left}
use Rattle.pf_cdb.proofs.search.find_record.Given as goal

abbrev pub invariant-loop-step : goal.invariant-loop-step
invariant-loop-step l = left l.file l.key l.hash l.step ≡ held l.file l.key
