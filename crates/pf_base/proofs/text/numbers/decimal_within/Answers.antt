use Rattle.std.proofs.Common.{sym, arith}
use Rattle.pf_base.proofs.NumberLemmas.{decimal_not_read, digits_are_text}
use Rattle.pf_base.proofs.text.numbers.decimal_within.Goals as goal

pub unreachable-requires : goal.unreachable-requires
unreachable-requires c = c.in_default.ensures.cases.0 (digits_are_text c.args.text.now (sym c.if-not-is_decimal.ensures))

pub returns-in-Err-clause-is : goal.returns-in-Err-clause-is
returns-in-Err-clause-is c =
    decimal_not_read _ c.args.most c.args.text.now c.in-Err.field-0 (omega (arith, c.ranges.most.fits)) (sym c.if-not-is_decimal.ensures)
    (rw (c.in-Err.is, c.in-Ok.ensures.cases.0) at c.parse.ensures.value.0)
