-- What names stand for with the default of one parameter more.
use Rattle.std.proofs.Common.{◌≡◌, ℕ, ◌+◌, ◌<◌, Bool, true, false, List, [], ◌∷◌, drop, Some, refl, sym, ap, ◌∙◌, cond, if◌then◌else◌}
use Rattle.std.specs.List.{find}
use Rattle.std.specs.Option.{option_map_or}
use Rattle.std.specs.Str.{bytes_eq}
use Rattle.pf_base.specs.declared.meaning.Meaning.TheVariants.{Is}
use Rattle.pf_catalogue.specs.Catalogue.{Row, catalogue, row_at}
use Rattle.pf_catalogue.specs.declared.count.TheConstants.{PARAMS}
use Rattle.pf_expand.specs.Clauses.Meanings.{AreNames, Kept, kept}
use Rattle.pf_expand.specs.Names.{with_source}
use Rattle.pf_params.proofs.CatalogueLaws.{drop_row, ended}
use Rattle.pf_params.specs.Sources.{default_value_among}

-- after the last parameter no name stands for anything
pub no_default_values : (names : List (List ℕ × Kept)) → AreNames names (λ name. Is []) → AreNames names (default_value_among (drop PARAMS catalogue))
no_default_values names are name = are name ∙ ap (λ rows. kept (default_value_among rows name)) (sym ended)

-- the first parameter of a name counts
one_more : (row : Row) (rows : List Row) (name : List ℕ) → with_source (default_value_among rows) row.name row.default_value name ≡ default_value_among (row ∷ rows) name
one_more row rows name = by_test (bytes_eq row.name name) where
  by_test : (t : Bool) → (if t then row.default_value else default_value_among rows name)
      ≡ option_map_or (λ (r : Row). r.default_value) (cond t (Some row) (find (λ (r : Row). bytes_eq r.name name) rows)) (Is [])
  by_test true = refl
  by_test false = refl

pub default_value_more : (new : List (List ℕ × Kept)) (place : ℕ) → place < PARAMS
    → AreNames new (with_source (default_value_among (drop (place + 1) catalogue)) (row_at place).name (row_at place).default_value)
    → AreNames new (default_value_among (drop place catalogue))
default_value_more new place within are name =
    are name ∙ ap kept (one_more (row_at place) (drop (place + 1) catalogue) name ∙ ap (λ rows. default_value_among rows name) (sym (drop_row place within)))
