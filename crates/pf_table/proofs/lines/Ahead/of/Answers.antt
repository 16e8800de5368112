use Rattle.std.proofs.Common.{◌∷◌, length, sym, ap, ◌∙◌, arith, length-append}
use Rattle.pf_table.proofs.AheadLaws.{counting_first, grouped_last, ignored_first}
use Rattle.pf_table.proofs.lines.Ahead.of.Goals as goal

pub last-requires : goal.last-requires
last-requires c = let h = c.lines.invariant.within in omega (arith, h)

pub returns-in-None : goal.returns-in-None
returns-in-None c =
    c.last.ensures ∙ sym (grouped_last c.lines.number c.lines.left.now c.in-None.ensures.none c.in-None.ensures.no_rest) ∙ sym c.lines.invariant.same

pub overflow_add-next : goal.overflow_add-next
overflow_add-next c = let h = c.lines.invariant.within in omega (arith, h)

pub invariant_of-result : goal.invariant_of-result
invariant_of-result c =
    let h = c.lines.invariant.within in
    omega (arith, h, ap length c.in-Some.ensures.bytes, length-append c.in-Some.line.now (10 ∷ c.in-Some.behind.now))

pub returns-then-not-is_passed : goal.returns-then-not-is_passed
returns-then-not-is_passed c =
    sym (c.lines.invariant.same
    ∙ counting_first c.lines.number c.lines.left.now c.in-Some.line.now _ c.in-Some.behind.now c.in-Some.ensures.line c.in-Some.ensures.rest
    c.without_return-line.ensures c.if-not-is_passed.ensures)

pub lines-preserved : goal.lines-preserved
lines-preserved c =
    let h = c.lines.invariant.within in
    record {
      same = c.lines.invariant.same
          ∙ ignored_first c.lines.number c.lines.left.now c.in-Some.line.now _ c.in-Some.behind.now c.in-Some.ensures.line c.in-Some.ensures.rest
          c.without_return-line.ensures c.if-not-is_passed.ensures;
      within = omega (arith, h, ap length c.in-Some.ensures.bytes, length-append c.in-Some.line.now (10 ∷ c.in-Some.behind.now));
    }
