use Rattle.std.proofs.Common.{ap, sym, subst, ℕ, ◌<◌, ◌∙◌}
use Rattle.std.specs.List.{position}
use Rattle.std.specs.Option.{IfSome}
use Rattle.std.specs.Str.{bytes_eq}
use Rattle.pf_catalogue.proofs.TableLaws.{position_mapped, position_within}
use Rattle.pf_catalogue.specs.Clauses.RowsMeant.{row_meant}
use Rattle.pf_catalogue.proofs.catalogue.place_of.Goals as goal

pub returns-clause-place : goal.returns-clause-place
returns-clause-place c =
    c.place_in.ensures
    ∙ sym (position_mapped row_meant (λ r. bytes_eq r.name c.args.name.now) c.rows.result.now)
    ∙ ap (position (λ r. bytes_eq r.name c.args.name.now)) c.rows.ensures.rows

pub returns-clause-within : goal.returns-clause-within
returns-clause-within c =
    let family : ℕ → Type 0 = λ n. IfSome c.place_in.result (λ place. place < n) in
    subst family c.rows.ensures.count (position_within (λ r. bytes_eq (row_meant r).name c.args.name.now) c.rows.result.now c.place_in.result c.place_in.ensures)
