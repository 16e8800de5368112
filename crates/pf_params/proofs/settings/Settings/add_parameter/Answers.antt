use Rattle.pf_catalogue.specs.Catalogue.{row_at}
use Rattle.pf_params.proofs.TextLaws.{texts_of}
use Rattle.pf_params.proofs.settings.Settings.add_parameter.Goals as goal

pub returns : goal.returns
returns c =
    rw (← texts_of c.args.self.now (row_at c.args.p) c.reading-reading.result.now c.args.specs.now c.reading-reading.ensures)
    (rw (c.kind.ensures, c.items.ensures) at c.add_tables.ensures.ok)
