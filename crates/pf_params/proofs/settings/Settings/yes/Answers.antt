use Rattle.std.proofs.Common.{ap, ◌∙◌, Some}
use Rattle.pf_catalogue.specs.Catalogue.{row_at}
use Rattle.pf_params.proofs.KindLaws.{answer_there, is_answer_value}
use Rattle.pf_params.proofs.ReadingLaws.{reading_is}
use Rattle.pf_params.specs.Accepted.{text_of}
use Rattle.pf_params.proofs.settings.Settings.yes.Goals as goal

pub unreachable-requires : goal.unreachable-requires
unreachable-requires c =
    let read = reading_is c.args.self.now (row_at c.args.p) c.reading.result.now c.reading.ensures in
    answer_there (row_at c.args.p).kind (text_of c.args.self.now (row_at c.args.p)) c.reading.result.now.value c.requires read.said c.in-None.ensures

pub returns : goal.returns
returns c =
    (reading_is c.args.self.now (row_at c.args.p) c.reading.result.now c.reading.ensures).said
    ∙ ap Some (is_answer_value c.reading.result.now.value c.in-Some.yes c.in-Some.ensures)
