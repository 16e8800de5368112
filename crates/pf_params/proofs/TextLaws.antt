-- The table texts of a parameter.
use Rattle.std.proofs.Common.{◌≡◌, ℕ, List, [], sym, ap, ◌∙◌}
use Rattle.std.specs.Option.{option_map_or}
use Rattle.pf_base.specs.TableTexts.{TableTexts}
use Rattle.pf_catalogue.specs.Catalogue.{Row}
use Rattle.pf_catalogue.specs.Tables.{tables_of, with_texts}
use Rattle.pf_catalogue.specs.Values.{items_in}
use Rattle.pf_maincf.specs.Settings.{Conf, line_of}
use Rattle.pf_params.proofs.ReadingLaws.{IsRead, reading_is}
use Rattle.pf_params.specs.Accepted.{items_of, with_parameter}
use Rattle.pf_params.specs.Parameters.{reading_of}
use Rattle.pf_params.specs.declared.readings.Reading.{Reading}
use Rattle.std.proofs.Common.{Ok}

items_read : (s : Conf) (row : Row) (r : Reading) → IsRead s row r → items_of s row ≡ items_in r.value
items_read s row r read = ap (λ said. option_map_or items_in said []) read.said

-- those that its items name
pub texts_of : (s : Conf) (row : Row) (r : Reading) (specs : TableTexts) → reading_of s row ≡ Ok r
    → with_texts r.line specs (tables_of row.kind (items_in r.value)) ≡ with_parameter s specs row
texts_of s row r specs is =
    let read = reading_is s row r is in
    ap (λ n. with_texts n specs (tables_of row.kind (items_in r.value))) read.line
    ∙ ap (λ xs. with_texts (line_of s row.name) specs (tables_of row.kind xs)) (sym (items_read s row r read))
