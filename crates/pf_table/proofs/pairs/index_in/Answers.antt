use Rattle.std.proofs.Common.{◌≡◌, ◌<◌, ◌-◌, ◌%◌, suc, true, false, length, refl, sym, ap, ◌∙◌, arith}
use Rattle.std.proofs.lemmas.Slice.Eq.{bytes_eq-Decides}
use Rattle.std.specs.Str.{bytes_eq}
use Rattle.pf_table.proofs.KeptLaws.{left_all, left_none, left_within, turn_found, turn_on, turn_smaller}
use Rattle.pf_table.specs.Clauses.Keeping.{bucket_of}
use Rattle.pf_table.proofs.pairs.index_in.Goals as goal

pub loop-up_to-init : goal.loop-up_to-init
loop-up_to-init c =
    let is : c.bucket.result ≡ bucket_of (length c.args.heads.now) c.args.key.now = c.bucket.ensures.is ∙ ap (λ h. h % length c.args.heads.now) c.requires.hashed in
    let low : bucket_of (length c.args.heads.now) c.args.key.now < length c.args.heads.now = rw (← is) c.bucket.ensures.within in
    left_all c.args.bytes.now c.args.key.now c.args.places.now c.args.heads.now _ c.requires.kept low (rw is refl)

pub place_at-place-requires : goal.place_at-place-requires
place_at-place-requires c =
    let low = left_within c.args.bytes.now c.args.key.now c.args.places.now (length c.args.heads.now) c.loop-up_to.up_to c.loop-up_to.invariant in
    omega (arith, low, c.loop-up_to-test.true)

pub part-requires-clause-order : goal.part-requires-clause-order
part-requires-clause-order c = (c.requires.kept.placed _ _ c.place_at-place.ensures).key

pub part-requires-clause-within : goal.part-requires-clause-within
part-requires-clause-within c = let is = c.requires.kept.placed _ _ c.place_at-place.ensures in omega (arith, is.value, is.within)

pub returns-then-eq : goal.returns-then-eq
returns-then-eq c =
    let up : c.loop-up_to.up_to ≡ suc (c.loop-up_to.up_to - 1) = omega (arith, c.loop-up_to-test.true) in
    turn_found c.args.bytes.now c.args.key.now c.args.places.now c.args.heads.now c.loop-up_to.up_to (c.loop-up_to.up_to - 1) _ c.requires.kept
    c.loop-up_to.invariant up c.place_at-place.ensures (sym c.part.ensures ∙ (bytes_eq-Decides _ _).0 (sym c.eq.ensures ∙ c.if-eq.true))

pub loop-up_to-smaller : goal.loop-up_to-smaller
loop-up_to-smaller c =
    let low = turn_smaller c.args.bytes.now c.args.key.now c.args.places.now c.args.heads.now _ _ c.requires.kept c.place_at-place.ensures in
    omega (arith, low, c.loop-up_to-test.true)

pub loop-up_to-preserved : goal.loop-up_to-preserved
loop-up_to-preserved c =
    let up : c.loop-up_to.up_to ≡ suc (c.loop-up_to.up_to - 1) = omega (arith, c.loop-up_to-test.true) in
    turn_on c.args.bytes.now c.args.key.now c.args.places.now c.args.heads.now c.loop-up_to.up_to (c.loop-up_to.up_to - 1) _ c.requires.kept
    c.loop-up_to.invariant up c.place_at-place.ensures (λ e.
    let t : bytes_eq c.part.result.now c.args.key.now ≡ true = (bytes_eq-Decides c.part.result.now c.args.key.now).1 (c.part.ensures ∙ e) in
    let f : bytes_eq c.part.result.now c.args.key.now ≡ false = sym c.eq.ensures ∙ c.if-eq.false in
    cc)

pub returns : goal.returns
returns c =
    let none : c.loop-up_to.up_to ≡ 0 = omega (arith, c.loop-up_to-test.false) in
    left_none c.args.bytes.now c.args.key.now c.args.places.now (length c.args.heads.now) c.loop-up_to.up_to c.loop-up_to.invariant none
