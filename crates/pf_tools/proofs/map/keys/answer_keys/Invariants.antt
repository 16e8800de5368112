use Rattle.std.proofs.Common.{◌≡◌, ◌≤◌, ◌-◌}
use Rattle.pf_base.specs.Outside.Known.{Output}
use Rattle.pf_base.specs.Outside.Objects.{sinks, streams}
use Rattle.pf_tools.specs.Clauses.Keys.{Passed}
use Rattle.pf_tools.specs.Clauses.Opened.{meant}
use Rattle.pf_tools.proofs.map.keys.answer_keys.Given as goal

abbrev pub invariant-turns : goal.invariant-turns
invariant-turns g l = record {
  passed : (mail log : Output) → Passed (meant l.tables) (streams (g.S.Source.known l.initial.input) (sinks (g.O.Sink.known l.initial.out) mail log))
      (streams (g.S.Source.known l.input) (sinks (g.O.Sink.known l.out) mail log)) l.progress l.taken;
  same : meant l.tables ≡ meant l.initial.tables;
  within : l.taken ≤ l.budget;
}

abbrev pub decreases-turns : goal.decreases-turns
decreases-turns g l = l.budget - l.taken
