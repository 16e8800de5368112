use Rattle.std.proofs.Common.{ap, is_some}
use Rattle.pf_catalogue.specs.Catalogue.{row_at}
use Rattle.pf_params.proofs.ReadingLaws.{reading_is}
use Rattle.pf_params.proofs.settings.Settings.text.Goals as goal

pub returns-clause-text : goal.returns-clause-text
returns-clause-text c = (reading_is c.args.self.now (row_at c.args.p) c.reading.result.now c.reading.ensures).text

pub returns-clause-kind : goal.returns-clause-kind
returns-clause-kind c = ap is_some (reading_is c.args.self.now (row_at c.args.p) c.reading.result.now c.reading.ensures).said
