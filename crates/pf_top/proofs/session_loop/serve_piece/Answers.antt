use Rattle.std.proofs.Common.{sym, ◌∙◌, take, arith}
use Rattle.pf_top.proofs.SessionLoopLemmas.{going_more, going_over}
use Rattle.pf_top.proofs.session_loop.serve_piece.Goals as goal

pub returns-in-Ok-More-clause-turn : goal.returns-in-Ok-More-clause-turn
returns-in-Ok-More-clause-turn g c = (
  record { taken = take c.in-Ok.count c.read.new.buf; is = sym c.in-Ok.ensures.bound.1; input = c.in-Ok.ensures.bytes.some (omega (arith, c.if-count-eq0.false)); took = c.in-Ok-More.ensures.took },
  omega (arith, c.if-count-eq0.false),
  omega (arith, c.in-Ok.ensures.bound.0, c.in-Ok.ensures.bound.1),
  going_more _ (sym c.in-Ok-More.field-0-is ∙ c.in-Ok-More.ensures.going),
)

pub returns-in-Ok-Ended-clause-turn : goal.returns-in-Ok-Ended-clause-turn
returns-in-Ok-Ended-clause-turn g c = (
  record { taken = take c.in-Ok.count c.read.new.buf; is = sym c.in-Ok.ensures.bound.1; input = c.in-Ok.ensures.bytes.some (omega (arith, c.if-count-eq0.false)); took = c.in-Ok-Ended.ensures.took },
  omega (arith, c.in-Ok.ensures.bound.0, c.in-Ok.ensures.bound.1),
  going_over _ (sym c.in-Ok-Ended.field-0-is ∙ c.in-Ok-Ended.ensures.going),
)

pub returns-in-Err-clause-turn : goal.returns-in-Err-clause-turn
returns-in-Err-clause-turn g c = record {
  piece = take c.in-Ok.count c.read.new.buf;
  few = omega (arith, c.in-Ok.ensures.bound.0, c.in-Ok.ensures.bound.1);
  input = c.in-Ok.ensures.bytes.some (omega (arith, c.if-count-eq0.false));
  stops = c.in-Err.ensures.stops;
}
