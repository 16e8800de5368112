use Rattle.std.proofs.Common.{arith}
use Rattle.pf_table.proofs.KeptLaws.{pair_get}
use Rattle.pf_table.proofs.pairs.Pairs.at.Goals as goal

pub part-key-requires-clause-order : goal.part-key-requires-clause-order
part-key-requires-clause-order c = (c.self.invariant.placed _ _ (rw c.as_slice.ensures.value at c.place_at-place.ensures)).key

pub part-key-requires-clause-within : goal.part-key-requires-clause-within
part-key-requires-clause-within c =
    let is = c.self.invariant.placed _ _ (rw c.as_slice.ensures.value at c.place_at-place.ensures) in
    rw c.as_slice-bytes.ensures.value (omega (arith, is.value, is.within))

pub part-value-requires-clause-order : goal.part-value-requires-clause-order
part-value-requires-clause-order c = (c.self.invariant.placed _ _ (rw c.as_slice.ensures.value at c.place_at-place.ensures)).value

pub part-value-requires-clause-within : goal.part-value-requires-clause-within
part-value-requires-clause-within c =
    let is = c.self.invariant.placed _ _ (rw c.as_slice.ensures.value at c.place_at-place.ensures) in rw c.as_slice-bytes.ensures.value is.within

pub returns : goal.returns
returns c =
    rw (← c.self.view_is, c.part-key.ensures, c.part-value.ensures, c.as_slice-bytes.ensures.value)
    (pair_get c.self.inside.bytes.items c.self.inside.places.items c.args.i _ (rw c.as_slice.ensures.value at c.place_at-place.ensures))
