use Rattle.std.proofs.Common.{◌≡◌, ◌<◌, ◌+◌, ℕ, List, ◌∷◌, drop, length, refl, sym, ap, arith, get_or}
use Rattle.std.proofs.lemmas.List.{at_drop_more, at_drop_all}
use Rattle.std.proofs.lemmas.Result.{err_from_is_err_and}
use Rattle.pf_asks.proofs.BrokenLaws.{broken_look, broken_next}
use Rattle.pf_asks.proofs.LedLaws.{led_look, led_next, led_refl, tables_can_find}
use Rattle.pf_base.specs.declared.table_texts.TableId.{TableId}
use Rattle.pf_table.specs.First.{first_of}
use Rattle.pf_table.proofs.first.first_in.Goals as goal

-- the question at the rest begins with its first table
next : (ids : List TableId) (key : List ℕ) (i : ℕ) → i < length ids
    → first_of (drop i ids) key ≡ first_of (get_or ids i (record { 0 = 0 }) ∷ drop (i + 1) ids) key
next ids key i h = at_drop_more (λ xs. first_of xs key) ids i (record { 0 = 0 }) h

pub loop-id-init : goal.loop-id-init
loop-id-init g c = record { led = λ w. led_refl _ _; few = omega arith; kept = refl }

pub find-requires-clause-sound : goal.find-requires-clause-sound
find-requires-clause-sound g c = (tables_can_find _ _ (first_of c.args.ids.now c.args.key.now) _ c.loop-id.invariant.led c.requires).sound

pub find-requires-clause-there : goal.find-requires-clause-there
find-requires-clause-there g c =
    (tables_can_find _ _ (first_of c.args.ids.now c.args.key.now) _ c.loop-id.invariant.led c.requires).there c.loop-id.id-index _ c.loop-id-test.true

pub loop-id-preserved : goal.loop-id-preserved
unfolding first_of
loop-id-preserved g c = record {
  led = λ w.
      let h = rw (next c.args.ids.now c.args.key.now c.loop-id.id-index (omega arith)) at (c.loop-id.invariant.led w) in
      led_next _ h (rw c.in-Absent.is at (led_look _ _ w c.in_ok-found.ensures.stays c.in_ok-found.ensures.answered));
  few = omega (arith, c.loop-id.invariant.few, ap (λ tables. tables.finds) c.in_ok-found.ensures.stays);
  kept = omega (arith, c.loop-id.invariant.kept, ap (λ tables. tables.held.faults) c.in_ok-found.ensures.stays);
}

pub returns-in-Value-clause-asked : goal.returns-in-Value-clause-asked
unfolding first_of
returns-in-Value-clause-asked g c = λ w.
    let h = rw (next c.args.ids.now c.args.key.now c.loop-id.id-index (omega arith)) at (c.loop-id.invariant.led w) in
    led_next _ h (rw c.in-Value.is at (led_look _ _ w c.in_ok-found.ensures.stays c.in_ok-found.ensures.answered))

pub returns-in_err-found-clause-asked : goal.returns-in_err-found-clause-asked
unfolding first_of
returns-in_err-found-clause-asked g c =
    let p = err_from_is_err_and c.from_residual.result c.from_residual.ensures.1 in
    let question = next c.args.ids.now c.args.key.now c.loop-id.id-index (omega arith) in
    rw (p.1, p.2) (
      λ fault w. led_next _ (rw question at (c.loop-id.invariant.led w)) (led_look _ _ w c.in_err-found.ensures.stays (c.in_err-found.ensures.answered fault)),
      λ memory w. broken_next _ (rw question at (c.loop-id.invariant.led w)) (broken_look _ _ w (rw memory at c.in_err-found.ensures.stays)),
    )

pub returns-clause-asked : goal.returns-clause-asked
unfolding first_of
returns-clause-asked g c = λ w.
    rw (sym (at_drop_all (λ xs. first_of xs c.args.key.now) c.args.ids.now c.loop-id.id-index (omega arith))) (c.loop-id.invariant.led w)

pub returns-in-Value-clause-finds : goal.returns-in-Value-clause-finds
returns-in-Value-clause-finds g c = omega (arith, c.loop-id.invariant.few, ap (λ tables. tables.finds) c.in_ok-found.ensures.stays)

pub returns-in_err-found-clause-finds : goal.returns-in_err-found-clause-finds
returns-in_err-found-clause-finds g c = omega (arith, c.loop-id.invariant.few, ap (λ tables. tables.finds) c.in_err-found.ensures.stays)

pub returns-clause-finds : goal.returns-clause-finds
returns-clause-finds g c = omega (arith, c.loop-id.invariant.few)

pub returns-in-Value-clause-cause : goal.returns-in-Value-clause-cause
returns-in-Value-clause-cause g c = omega (arith, c.loop-id.invariant.kept, ap (λ tables. tables.held.faults) c.in_ok-found.ensures.stays)

pub returns-in_err-found-clause-cause : goal.returns-in_err-found-clause-cause
returns-in_err-found-clause-cause g c =
    let p = err_from_is_err_and c.from_residual.result c.from_residual.ensures.1 in
    rw (p.1, p.2) (rw c.loop-id.invariant.kept at (ap (λ tables. tables.held.faults) c.in_err-found.ensures.stays))

pub returns-clause-cause : goal.returns-clause-cause
returns-clause-cause g c = omega (arith, c.loop-id.invariant.kept)
