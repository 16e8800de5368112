use Rattle.std.proofs.Common.{◌+◌, arith, ◌*◌, sym, ap, ◌∙◌}
use Rattle.pf_catalogue.proofs.NumberLaws.{digits_more, number_more, too_large}
use Rattle.pf_catalogue.proofs.numbers.number_within.Goals as goal

pub returns-then-number-from : goal.returns-then-number-from
returns-then-number-from c =
    too_large c.args.least c.args.most c.args.text.now (c.loop-b.b-index + 1) _
    (ap (λ n. c.loop-b.number * 10 + n) c.from.ensures
    ∙ number_more c.args.text.now c.loop-b.b-index c.loop-b.number (omega arith) c.if-not-is_ascii_digit.ensures.cases c.loop-b.invariant.value)
    (omega arith)

pub loop-b-preserved : goal.loop-b-preserved
loop-b-preserved c = record {
  value =
      ap (λ n. c.loop-b.number * 10 + n) c.from.ensures
      ∙ number_more c.args.text.now c.loop-b.b-index c.loop-b.number (omega arith) c.if-not-is_ascii_digit.ensures.cases c.loop-b.invariant.value;
  digits = digits_more c.args.text.now c.loop-b.b-index (omega arith) c.loop-b.invariant.digits (sym c.if-not-is_ascii_digit.ensures.value);
  within = omega arith;
}
