use Rattle.std.proofs.Common.{ap, ◌∙◌, Some}
use Rattle.pf_catalogue.specs.Catalogue.{row_at}
use Rattle.pf_params.proofs.KindLaws.{is_number_value, number_of_kind, numeric_there}
use Rattle.pf_params.proofs.ReadingLaws.{reading_is}
use Rattle.pf_params.specs.Accepted.{text_of}
use Rattle.pf_params.proofs.settings.Settings.number.Goals as goal

pub unreachable-requires : goal.unreachable-requires
unreachable-requires c =
    let read = reading_is c.args.self.now (row_at c.args.p) c.reading.result.now c.reading.ensures in
    numeric_there (row_at c.args.p).kind (text_of c.args.self.now (row_at c.args.p)) c.reading.result.now.value c.requires read.said c.in-None.ensures

pub returns-clause-said : goal.returns-clause-said
returns-clause-said c =
    (reading_is c.args.self.now (row_at c.args.p) c.reading.result.now c.reading.ensures).said
    ∙ ap Some (is_number_value c.reading.result.now.value c.in-Some.number c.in-Some.ensures)

pub returns-clause-kind : goal.returns-clause-kind
returns-clause-kind c =
    let read = reading_is c.args.self.now (row_at c.args.p) c.reading.result.now c.reading.ensures in
    number_of_kind (row_at c.args.p).kind (text_of c.args.self.now (row_at c.args.p)) c.in-Some.number c.requires
    (read.said ∙ ap Some (is_number_value c.reading.result.now.value c.in-Some.number c.in-Some.ensures))
