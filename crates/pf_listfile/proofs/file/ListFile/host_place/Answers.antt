use Rattle.pf_listfile.proofs.PlaceLaws.{host_at}
use Rattle.pf_listfile.proofs.file.ListFile.host_place.Goals as goal

pub returns : goal.returns
returns c =
    let places = rw (c.get.ensures, c.first_below.ensures) at c.earlier.ensures in
    rw (places, ← c.self.view_is) (host_at _ _ _ _ c.self.invariant c.args.host.now)
