use Rattle.pf_listfile.proofs.PlaceLaws.{domain_at}
use Rattle.pf_listfile.proofs.file.ListFile.domain_place.Goals as goal

pub returns : goal.returns
returns c =
    let places = rw (c.get.ensures, c.at_dot.ensures) at c.earlier.ensures in
    rw (places, ← c.self.view_is) (domain_at _ _ _ _ c.self.invariant c.args.domain.now)
