use Rattle.std.proofs.Common.{sym}
use Rattle.pf_listfile.proofs.PlaceLaws.{first_left, first_put}
use Rattle.pf_listfile.specs.Clauses.Places.{place_in}
use Rattle.pf_listfile.proofs.places.places_of.Goals as goal
use Rattle.pf_listfile.proofs.places.places_of.Goals.{in-Some+in_ok-put_first, in_default}

pub loop-place-preserved : goal.loop-place-preserved
loop-place-preserved c = elim c.match-text_of.branch [
  | in-Some+in_ok-put_first w ↦ rw w.places-is
      (first_put (place_in c.loop-place.places) (place_in w.put_first.new.self) c.args.kind c.args.items.now c.loop-place.place c.index-items-place.result w.in-Some.text.now
      c.loop-place-test.true c.index-items-place.is (sym w.in-Some.ensures) c.loop-place.invariant w.in_ok-put_first.ensures)
  | in_default w ↦ rw w.places-is
      (first_left (place_in c.loop-place.places) c.args.kind c.args.items.now c.loop-place.place c.index-items-place.result
      c.loop-place-test.true c.index-items-place.is (sym w.in_default.ensures) c.loop-place.invariant)
]
