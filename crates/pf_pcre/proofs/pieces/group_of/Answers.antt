use Rattle.std.proofs.Common.{sym, arith}
use Rattle.pf_pcre.proofs.NumberLemmas.{digits_are_text, group_not_read}
use Rattle.pf_pcre.proofs.pieces.group_of.Goals as goal

pub unreachable-requires : goal.unreachable-requires
unreachable-requires c = c.in_default.ensures.cases.0 (digits_are_text c.args.text.now (sym c.if-not-is_number.ensures))

pub returns-in-Err : goal.returns-in-Err
returns-in-Err c =
    group_not_read _ c.args.groups c.args.text.now c.in-Err.field-0 (omega (arith, c.ranges.groups.fits)) (sym c.if-not-is_number.ensures)
    (rw (c.in-Err.is, c.in-Ok.ensures.cases.0) at c.parse.ensures.value.0)
