use Rattle.std.proofs.Common.{◌≡◌, ◌<◌, ℕ, true}
use Rattle.pf_cdb.specs.Clauses.Gathered.{step_slot}
use Rattle.pf_cdb.specs.Held.{is_used}
use Rattle.pf_cdb.proofs.placing.place.Given as goal

abbrev pub invariant-loop-step : goal.invariant-loop-step
invariant-loop-step l = record {
  same : l.slots ≡ l.fn.slots;
  used : (k : ℕ) → k < l.step → is_used (step_slot l.fn.slots l.slot.hash k) ≡ true;
}
