use Rattle.std.proofs.Common.{[], ap, sym, ◌∙◌, Some}
use Rattle.std.specs.Option.{option_map_or}
use Rattle.pf_catalogue.specs.Catalogue.{row_at}
use Rattle.pf_catalogue.specs.Values.{items_in}
use Rattle.pf_params.proofs.KindLaws.{is_list_value, items_of_kind, list_there}
use Rattle.pf_params.proofs.ReadingLaws.{reading_is}
use Rattle.pf_params.specs.Accepted.{text_of}
use Rattle.pf_params.proofs.settings.Settings.items.Goals as goal

pub unreachable-requires : goal.unreachable-requires
unreachable-requires c =
    let read = reading_is c.args.self.now (row_at c.args.p) c.reading.result.now c.reading.ensures in
    list_there (row_at c.args.p).kind (text_of c.args.self.now (row_at c.args.p)) c.reading.result.now.value c.requires read.said c.in-None.ensures

pub returns-clause-items : goal.returns-clause-items
returns-clause-items c =
    sym (ap (λ said. option_map_or items_in said [])
    ((reading_is c.args.self.now (row_at c.args.p) c.reading.result.now c.reading.ensures).said
    ∙ ap Some (is_list_value c.reading.result.now.value c.in-Some.items.now c.in-Some.ensures)))

pub returns-clause-kind : goal.returns-clause-kind
returns-clause-kind c =
    let read = reading_is c.args.self.now (row_at c.args.p) c.reading.result.now c.reading.ensures in
    items_of_kind (row_at c.args.p).kind (text_of c.args.self.now (row_at c.args.p)) c.in-Some.items.now c.requires
    (read.said ∙ ap Some (is_list_value c.reading.result.now.value c.in-Some.items.now c.in-Some.ensures))
