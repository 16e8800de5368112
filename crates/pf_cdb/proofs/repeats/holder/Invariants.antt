use Rattle.std.proofs.Common.{◌≡◌}
use Rattle.pf_cdb.specs.Held.{held}
use Rattle.pf_cdb.specs.Layout.{key_at}
use Rattle.pf_cdb.proofs.SearchLaws.{left}
use Rattle.pf_cdb.proofs.repeats.holder.Given as goal

abbrev pub invariant-loop-step : goal.invariant-loop-step
invariant-loop-step l = left l.file (key_at l.file l.own.at) l.own.hash l.step ≡ held l.file (key_at l.file l.own.at)
