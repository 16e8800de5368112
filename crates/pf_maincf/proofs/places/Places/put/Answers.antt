use Rattle.pf_maincf.proofs.PlaceLaws.{set_text}
use Rattle.pf_maincf.proofs.places.Places.put.Goals as goal

pub returns : goal.returns
returns c =
    let updates = c.in-Ok.ensures.updates in
    set_text (λ name. name.items) _ _ c.args.name.items updates.3 c.args.place updates.1
