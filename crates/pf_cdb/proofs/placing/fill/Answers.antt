use Rattle.std.proofs.Common.{◌*◌, ◌<◌, length, replicate, ap, ◌∙◌, sym, subst, arith}
use Rattle.std.specs.List.{count_by, fold}
use Rattle.std.proofs.lemmas.List.{take_all}
use Rattle.pf_cdb.specs.Held.{empty, is_used}
use Rattle.pf_cdb.specs.Written.{filled, put}
use Rattle.pf_cdb.proofs.PlaceLaws.{has_room}
use Rattle.pf_cdb.proofs.placing.fill.Goals as goal

pub place-requires : goal.place-requires
place-requires c =
    subst (λ l. count_by is_used l < length l) (sym (c.as_mut_slice.ensures.value ∙ c.loop-slot.invariant))
    (has_room c.args.placed.now c.loop-slot.slot-index c.loop-slot-test.true)

pub returns : goal.returns
unfolding filled
returns c =
    c.loop-slot.invariant
    ∙ ap (fold put (replicate (2 * length c.args.placed.now) empty)) (take_all c.loop-slot.slot-index c.args.placed.now (omega arith))
