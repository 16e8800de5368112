use Rattle.std.proofs.Common.{◌∙◌}
use Rattle.pf_maincf.proofs.PlaceLaws.{found}
use Rattle.pf_maincf.specs.Clauses.Places.{place_in}
use Rattle.pf_maincf.specs.Settings.{last_setting}
use Rattle.pf_maincf.proofs.maincf.MainCf.last.Goals as goal

pub returns : goal.returns
returns c =
    let settings = c.self.inside.settings in
    let name = c.args.name.now in
    rw (← c.self.view_is)
    (rw (c.as_slice.ensures, c.get.ensures) at c.setting_at.ensures
    ∙ found settings (place_in c.self.inside.places name) (last_setting settings name) (c.self.invariant name))
