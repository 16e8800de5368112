use Rattle.std.proofs.Common.{Some, drop, length, ap, refl, ◌∙◌, arith, length-take}
use Rattle.std.proofs.lemmas.Bool.{eq-eqb, false≢true}
use Rattle.std.proofs.lemmas.List.{take_rest, nil_from_length}
use Rattle.pf_base.proofs.Parts.{copied_prefix}
use Rattle.pf_base.proofs.outside.memory.MemSourceSource.read.Goals as goal

pub returns-then-count-eq0-clause-bytes : goal.returns-then-count-eq0-clause-bytes
returns-then-count-eq0-clause-bytes c =
    let count = simp (c.as_slice.ensures, take_rest) at c.copy_prefix-count.ensures.count in
    let counted = c.saturating_add-self-inside.ensures in
    let kept = c.next.ensures.kept c.if-next.false in
    rw (← c.self.view_is) (
    record {
      some = λ some. absurd (omega (arith, some));
      end = λ at room. (
        nil_from_length (drop c.self.inside.at c.self.inside.bytes)
            (omega (arith, count, c.if-count-eq0.true, c.greatest_read-greatest.ensures.some, room, c.copy_prefix-count.auto.buf)),
        rw (counted, kept) refl,
      );
      none = λ empty. absurd (false≢true (c.if-is_empty.ensures ∙ eq-eqb (length c.args.buf.now) 0 (omega (arith, empty, c.copy_prefix-count.auto.buf))));
    }
    )

pub returns-clause-bytes : goal.returns-clause-bytes
returns-clause-bytes c =
    let copied = simp (c.as_slice.ensures, take_rest) at c.copy_prefix-count.ensures.copied in
    let count = simp (c.as_slice.ensures, take_rest) at c.copy_prefix-count.ensures.count in
    rw (← c.self.view_is) (
    record {
      some = λ some. record {
        left = ap Some (copied_prefix c.self.inside.bytes c.copy_prefix-count.new.buf c.self.inside.at c.copy_prefix-count.result copied);
        given = omega (arith, c.self.ranges, length-take c.copy_prefix-count.result c.copy_prefix-count.new.buf, count);
        ends = refl;
        ended = refl;
        faults = c.next.ensures.kept c.if-next.false;
      };
      end = λ none room. absurd (omega (arith, none, c.if-count-eq0.false));
      none = λ empty. absurd (omega (arith, empty, count, c.if-count-eq0.false));
    }
    )
