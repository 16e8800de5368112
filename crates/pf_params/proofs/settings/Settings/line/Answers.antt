use Rattle.pf_catalogue.specs.Catalogue.{row_at}
use Rattle.pf_params.proofs.ReadingLaws.{reading_is}
use Rattle.pf_params.proofs.settings.Settings.line.Goals as goal

pub returns : goal.returns
returns c = (reading_is c.args.self.now (row_at c.args.p) c.reading.result.now c.reading.ensures).line
