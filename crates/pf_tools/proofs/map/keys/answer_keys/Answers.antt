use Rattle.std.proofs.Common.{length-take, refl, ◌∙◌, arith}
use Rattle.pf_tools.proofs.KeyLaws.{budget_here, ends_here, fault_here, passed_means, passed_more, passed_none}
use Rattle.pf_tools.specs.Clauses.Opened.{meant}
use Rattle.pf_tools.proofs.map.keys.answer_keys.Goals as goal

pub turns-init : goal.turns-init
turns-init g c = record {
  passed = λ mail log. passed_none (meant c.args.tables) _ c.new-progress.result c.new-progress.ensures;
  same = refl;
  within = omega arith;
}

pub overflow_add-taken : goal.overflow_add-taken
overflow_add-taken g c =
    let out = g.O.Sink.known c.args.out.now in
    let turn = rw c.in-Ok-More.field-0-is at (c.in-Ok-More.ensures.turn out out) in
    let few = turn.few in
    omega (arith, few, length-take c.min-room.result c.turns.buf, c.min-room.ensures, c.turns-test.true, c.ranges.budget.fits)

pub turns-smaller : goal.turns-smaller
turns-smaller g c =
    let out = g.O.Sink.known c.args.out.now in
    let turn = rw c.in-Ok-More.field-0-is at (c.in-Ok-More.ensures.turn out out) in
    let some = turn.some in
    omega (arith, some, c.turns-test.true)

pub turns-preserved : goal.turns-preserved
turns-preserved g c =
    let out = g.O.Sink.known c.args.out.now in
    let one = rw c.in-Ok-More.field-0-is at (c.in-Ok-More.ensures.turn out out) in
    let few = one.few in
    record {
      passed = λ mail log. passed_means c.in-Ok-More.ensures.same
          (passed_more (meant c.turns.tables) (c.turns.invariant.passed mail log) (rw c.in-Ok-More.field-0-is at (c.in-Ok-More.ensures.turn mail log)));
      same = c.in-Ok-More.ensures.same ∙ c.turns.invariant.same;
      within = omega (arith, few, length-take c.min-room.result c.turns.buf, c.min-room.ensures, c.turns-test.true);
    }

pub returns-in-Ok-End : goal.returns-in-Ok-End
returns-in-Ok-End g c = λ mail log.
    let turn = rw c.in-Ok-End.field-0-is at (c.in-Ok-End.ensures.turn mail log) in
    ends_here (meant c.turns.tables) c.turns.invariant.same _ _ c.take_turn.new.progress (meant c.take_turn.new.tables) c.end_keys.result (c.turns.invariant.passed mail log)
    c.turns-test.true turn.0 turn.1 c.in-Ok-End.ensures.same turn.2 refl (c.end_keys.ensures mail log)

pub returns-in-Err : goal.returns-in-Err
returns-in-Err g c = λ mail log.
    fault_here (meant c.turns.tables) c.turns.invariant.same _ c.take_turn.new.progress c.in-Err.fault (c.turns.invariant.passed mail log) c.turns-test.true
    (omega (arith, length-take c.min-room.result c.turns.buf, c.min-room.ensures))
    (omega (arith, length-take c.min-room.result c.turns.buf, c.min-room.ensures, c.turns-test.true)) (c.in-Err.ensures.turn mail log)

pub returns : goal.returns
returns g c = λ mail log.
    budget_here (meant c.turns.tables) c.turns.invariant.same (c.turns.invariant.passed mail log) (omega (arith, c.turns.invariant.within, c.turns-test.false))
