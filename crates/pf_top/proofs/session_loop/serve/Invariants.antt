use Rattle.std.proofs.Common.{◌≡◌, ◌≤◌, ◌-◌, true, false}
use Rattle.pf_base.specs.Outside.Objects.{sinks, streams}
use Rattle.pf_top.specs.Clauses.Turns.{Passed}
use Rattle.pf_top.proofs.session_loop.serve.Given as goal

abbrev pub invariant-turns : goal.invariant-turns
invariant-turns g l = record {
  passed : Passed (streams (g.S.Source.known l.initial.input) (sinks (g.O.Sink.known l.initial.out) (g.M.Sink.known l.initial.mail) (g.J.Sink.known l.initial.log)))
      (streams (g.S.Source.known l.input) (sinks (g.O.Sink.known l.out) (g.M.Sink.known l.mail) (g.J.Sink.known l.log))) l.initial.session.progress l.session.progress l.taken;
  begun : l.session.begun ≡ true;
  going : l.session.progress.state.ended ≡ false;
  within : l.taken ≤ l.budget;
}

abbrev pub decreases-turns : goal.decreases-turns
decreases-turns g l = l.budget - l.taken
