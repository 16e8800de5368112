use Rattle.std.proofs.Common.{sym, ap, ◌∙◌, arith, append-nil, is_ok, ◌++◌}
use Rattle.pf_expand.proofs.WriteLaws.{bad_there, wrote_more, domain_there, empty_there, host_there, none_there, one_less, text_there, zero_there}
use Rattle.pf_expand.specs.Clauses.Meanings.{level_value}
use Rattle.pf_expand.specs.Expansion.{content}
use Rattle.pf_expand.specs.Clauses.Runs.{run}
use Rattle.pf_expand.specs.declared.run.Mode.TheVariants.{Counts}
use Rattle.pf_expand.proofs.write.+write_name.Goals as goal

pub write_name-returns-then-levels-eq0 : goal.write_name-returns-then-levels-eq0
write_name-returns-then-levels-eq0 t c = absurd (zero_there c.args.names.now c.args.name.now (rw c.if-levels-eq0.true at c.requires.there))

pub write_name-returns-then-is_nothing : goal.write_name-returns-then-is_nothing
write_name-returns-then-is_nothing t c =
    rw (empty_there c.args.names.now c.args.sizes.now c.args.levels c.args.name.now c.requires.sizes c.requires.levels c.requires.there
    (sym c.size_named.ensures ∙ c.is_nothing.ensures c.if-is_nothing.true)) (sym (append-nil c.args.out.now))

pub write_name-write_meaning-requires : goal.write_name-write_meaning-requires
write_name-write_meaning-requires t c = (
  omega (arith, c.decreases, c.if-levels-eq0.false),
  (
    c.requires.sizes,
    (
      omega (arith, c.requires.levels),
      rw (one_less c.args.levels c.if-levels-eq0.false) c.requires.there,
    ),
  ),
)

pub write_name-returns : goal.write_name-returns
write_name-returns t c = rw (one_less c.args.levels c.if-levels-eq0.false) at c.write_meaning.ensures

pub write_meaning-returns-in-None : goal.write_meaning-returns-in-None
write_meaning-returns-in-None t c =
    rw (none_there c.args.names.now c.args.levels c.args.name.now (sym (rw c.in-None.is at c.get.ensures))) (sym (append-nil c.args.out.now))

pub write_meaning-returns-in-Some-Is-None : goal.write_meaning-returns-in-Some-Is-None
write_meaning-returns-in-Some-Is-None t c =
    absurd (bad_there c.args.names.now c.args.levels c.args.name.now (sym (rw (c.in-Some-Is-None.is, c.in-Some-Is-None.field-0-is, c.in-Some-Is-None.field-0-0-is) at c.get.ensures)) c.requires.there)

pub write_meaning-write_pieces-requires : goal.write_meaning-write_pieces-requires
write_meaning-write_pieces-requires t c = (
  omega (arith, c.decreases),
  (
    c.requires.sizes,
    (
      c.requires.levels,
      rw c.as_slice.ensures
          (ap is_ok (sym (text_there c.args.names.now c.args.levels c.args.name.now c.in-Some-Is-Some.tokens (sym (rw (c.in-Some-Is-Some.is, c.in-Some-Is-Some.field-0-is, c.in-Some-Is-Some.field-0-0-is) at c.get.ensures)) c.requires.there))
          ∙ c.requires.there),
    ),
  ),
)

pub write_meaning-write_domain-requires : goal.write_meaning-write_domain-requires
write_meaning-write_domain-requires t c = (
  omega (arith, c.decreases),
  (
    c.requires.sizes,
    (
      c.requires.levels,
      host_there _ (ap is_ok (sym (domain_there c.args.names.now c.args.levels c.args.name.now c.in-Some-DomainOf.host (sym (rw (c.in-Some-DomainOf.is, c.in-Some-DomainOf.field-0-is) at c.get.ensures))))
          ∙ c.requires.there),
    ),
  ),
)

pub write_meaning-returns-in-Some-Is-Some : goal.write_meaning-returns-in-Some-Is-Some
write_meaning-returns-in-Some-Is-Some t c =
    rw (
      text_there c.args.names.now c.args.levels c.args.name.now c.in-Some-Is-Some.tokens (sym (rw (c.in-Some-Is-Some.is, c.in-Some-Is-Some.field-0-is, c.in-Some-Is-Some.field-0-0-is) at c.get.ensures)) c.requires.there,
      ← c.as_slice.ensures,
    ) c.write_pieces.ensures

pub write_meaning-returns-in-Some-DomainOf : goal.write_meaning-returns-in-Some-DomainOf
write_meaning-returns-in-Some-DomainOf t c =
    rw (domain_there c.args.names.now c.args.levels c.args.name.now c.in-Some-DomainOf.host (sym (rw (c.in-Some-DomainOf.is, c.in-Some-DomainOf.field-0-is) at c.get.ensures)))
    c.write_domain.ensures

pub write_pieces-loop-token-preserved : goal.write_pieces-loop-token-preserved
write_pieces-loop-token-preserved t c =
    wrote_more c.args.names.now c.args.sizes.now c.args.levels c.args.tokens.now c.loop-token.token-index c.loop-token.mode c.behind-mode.result c.token-item.result
    (c.args.out.now ++ content (run (level_value c.args.names.now c.args.levels) Counts c.args.tokens.now)) c.loop-token.out c.write_piece.new.out
    c.requires.sizes c.requires.levels (omega arith) c.token-item.is c.loop-token.invariant.0 c.loop-token.invariant.1 c.loop-token.invariant.2
    c.in_ok-write_piece.ensures (rw c.choice_behind.ensures at c.behind-mode.ensures)
