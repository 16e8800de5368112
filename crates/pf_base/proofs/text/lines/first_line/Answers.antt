use Rattle.std.proofs.Common.{arith}
use Rattle.std.proofs.lemmas.Bool.{eqb-true, eq-eqb}
use Rattle.std.proofs.lemmas.List.{take_rest}
use Rattle.pf_base.proofs.LineEnds.{IsFirstFeed, lines_no_feed, rest_no_feed, lines_at_first, lines_of_first, rest_at_first}
use Rattle.pf_base.proofs.text.lines.first_line.Goals as goal

pub returns-in-None-clause-none : goal.returns-in-None-clause-none
returns-in-None-clause-none c = lines_no_feed _ (λ k lt e. c.in-None.ensures k (omega arith) lt (eq-eqb _ 10 e))

pub returns-in-None-clause-no_rest : goal.returns-in-None-clause-no_rest
returns-in-None-clause-no_rest c = rest_no_feed _ (λ k lt e. c.in-None.ensures k (omega arith) lt (eq-eqb _ 10 e))

pub returns-in-Some-clause-line : goal.returns-in-Some-clause-line
returns-in-Some-clause-line c =
    let first : IsFirstFeed c.args.bytes.now c.in-Some.end = record {
      within = c.in-Some.ensures.0.high;
      feed = eqb-true _ _ c.in-Some.ensures.1;
      before = λ k lt e. c.in-Some.ensures.0.before k (omega arith) lt (eq-eqb _ 10 e);
    } in
    rw take_rest (lines_at_first _ _ first)

pub returns-in-Some-clause-alone : goal.returns-in-Some-clause-alone
returns-in-Some-clause-alone c =
    let first : IsFirstFeed c.args.bytes.now c.in-Some.end = record {
      within = c.in-Some.ensures.0.high;
      feed = eqb-true _ _ c.in-Some.ensures.1;
      before = λ k lt e. c.in-Some.ensures.0.before k (omega arith) lt (eq-eqb _ 10 e);
    } in
    lines_of_first _ _ first

pub returns-in-Some-clause-rest : goal.returns-in-Some-clause-rest
returns-in-Some-clause-rest c =
    let first : IsFirstFeed c.args.bytes.now c.in-Some.end = record {
      within = c.in-Some.ensures.0.high;
      feed = eqb-true _ _ c.in-Some.ensures.1;
      before = λ k lt e. c.in-Some.ensures.0.before k (omega arith) lt (eq-eqb _ 10 e);
    } in
    rw take_rest (rest_at_first _ _ first)
