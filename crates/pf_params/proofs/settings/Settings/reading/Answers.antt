use Rattle.std.proofs.Common.{arith}
use Rattle.pf_catalogue.specs.Catalogue.{catalogue}
use Rattle.pf_params.proofs.CatalogueLaws.{count}
use Rattle.pf_params.proofs.ReadingLaws.{reading_there, readings_count}
use Rattle.pf_params.proofs.settings.Settings.reading.Goals as goal

pub at-requires : goal.at-requires
at-requires c = omega (arith, readings_count c.self.inside.known catalogue c.self.inside.readings c.self.invariant.0, count)

pub returns : goal.returns
returns c =
    rw (← c.self.view_is)
    (reading_there c.self.inside.known catalogue c.self.inside.readings c.args.p c.at.result.now _ c.self.invariant.0
    (rw (c.from.ensures, c.place.ensures.place) at c.at.ensures))
