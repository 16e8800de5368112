use Rattle.pf_maincf.proofs.PlaceLaws.{put_more}
use Rattle.pf_maincf.specs.Clauses.Places.{place_in}
use Rattle.pf_maincf.proofs.places.places_of.Goals as goal

pub loop-place-preserved : goal.loop-place-preserved
loop-place-preserved c =
    put_more (place_in c.loop-place.places) (place_in c.add.new.self) c.args.settings.now c.loop-place.place c.index-settings-place.result
    c.loop-place-test.true c.index-settings-place.is c.loop-place.invariant (rw c.as_slice.ensures at c.in_ok-add.ensures)
