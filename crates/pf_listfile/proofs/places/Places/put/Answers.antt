use Rattle.pf_listfile.proofs.PutLaws.{put_text}
use Rattle.pf_listfile.proofs.places.Places.put.Goals as goal

pub returns : goal.returns
returns c =
    let updates = c.in-Ok.ensures.updates in
    put_text (λ text. text.items) _ _ c.args.text.items updates.3 c.args.place updates.1
