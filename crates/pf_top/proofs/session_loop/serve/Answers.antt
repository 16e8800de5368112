use Rattle.std.proofs.Common.{length-take, ap, arith}
use Rattle.pf_base.specs.Outside.Objects.{sinks, streams}
use Rattle.pf_top.proofs.SessionLoopLemmas.{budget_here, ends_here, over_here, passed_more, passed_none, served_fault}
use Rattle.pf_top.proofs.session_loop.serve.Goals as goal

pub turns-init : goal.turns-init
turns-init g c = record {
  passed = rw c.requires.starts (passed_none (streams (g.S.Source.known c.args.input.now) (sinks (g.O.Sink.known c.args.out.now) (g.M.Sink.known c.args.mail.now) (g.J.Sink.known c.args.log.now))) c.args.session.now.progress.setup);
  begun = c.requires.begun;
  going = ap (λ s. s.state.ended) c.requires.starts;
  within = omega arith;
}

pub turns-preserved : goal.turns-preserved
turns-preserved g c =
    let turn = rw c.in-Ok-More.field-0-is at c.in-Ok-More.ensures.turn in
    record {
      passed = passed_more c.turns.invariant.passed turn.0;
      begun = c.in-Ok-More.ensures.begun;
      going = turn.3;
      within = omega (arith, turn.2, length-take c.min-room.result c.turns.buf, c.min-room.ensures);
    }

pub returns-in-Ok-End : goal.returns-in-Ok-End
returns-in-Ok-End g c =
    let turn = rw c.in-Ok-End.field-0-is at c.in-Ok-End.ensures.turn in
    ends_here turn.0 turn.2 c.turns.invariant.going c.turns.invariant.passed c.turns-test.true

pub returns-in-Ok-Over : goal.returns-in-Ok-Over
returns-in-Ok-Over g c =
    let turn = rw c.in-Ok-Over.field-0-is at c.in-Ok-Over.ensures.turn in
    over_here c.args.budget c.turns.invariant.going turn.2 c.turns.invariant.passed turn.0
    (omega (arith, turn.1, length-take c.min-room.result c.turns.buf, c.min-room.ensures))
    (omega (arith, turn.1, length-take c.min-room.result c.turns.buf, c.min-room.ensures, c.turns-test.true))

pub returns-in-Err : goal.returns-in-Err
returns-in-Err g c =
    served_fault _ _ c.in-Err.fault c.turns.invariant.going c.turns.invariant.passed c.in-Err.ensures.turn c.turns-test.true
    (omega (arith, length-take c.min-room.result c.turns.buf, c.min-room.ensures))
    (omega (arith, length-take c.min-room.result c.turns.buf, c.min-room.ensures, c.turns-test.true))

pub returns : goal.returns
returns g c = budget_here c.turns.invariant.going c.turns.invariant.passed (omega (arith, c.turns.invariant.within, c.turns-test.false))
