-- What names stand for by default.
use Rattle.std.proofs.Common.{◌≡◌, ℕ, ◌≤◌, zero, suc, Bool, true, false, List, [], ◌∷◌, Option, None, Some, cond, get_or, length, ltb, refl, sym, ap, ◌∙◌, arith}
use Rattle.std.proofs.lemmas.Bool.{ltb-false}
use Rattle.std.proofs.lemmas.List.Folds.{find_at}
use Rattle.std.proofs.lemmas.List.Quantifiers.{position-Some}
use Rattle.std.proofs.lemmas.Option.{slice_get-get_or}
use Rattle.std.specs.List.{find, position, position_or_len, slice_get}
use Rattle.std.specs.Option.{option_map_or}
use Rattle.std.specs.Str.{bytes_eq}
use Rattle.pf_base.specs.declared.meaning.Meaning.TheVariants.{Is}
use Rattle.pf_catalogue.specs.Catalogue.{Row, catalogue, place_of, row, row_at}
use Rattle.pf_catalogue.specs.declared.kind.Kind.TheVariants.{Text}
use Rattle.pf_params.specs.Sources.{default_value_of}

-- an element by its place
past : {X : Type 0} (xs : List X) (n : ℕ) → length xs ≤ n → slice_get xs n ≡ None
past [] n h = refl
past (x ∷ xs) zero h = absurd (omega arith)
past (x ∷ xs) (suc n) h = past xs n (omega arith)

none_there : {X : Type 0} (p : X → Bool) (xs : List X) → None ≡ position p xs → find p xs ≡ None
none_there p xs e =
    let n : ℕ = position_or_len p xs in
    find_at p xs ∙ past xs n (ltb-false n (length xs) (elim (ltb n (length xs)) as (λ t. cond t (Some n) None ≡ None → t ≡ false) [ true ↦ λ h. cc | false ↦ λ h. refl ] (sym e)))

some_there : {X : Type 0} (p : X → Bool) (xs : List X) (i : ℕ) (d : X) → Some i ≡ position p xs → find p xs ≡ Some (get_or xs i d)
some_there p xs i d e =
    let n : ℕ = position_or_len p xs in
    find_at p xs ∙ ap (slice_get xs) (elim (ltb n (length xs)) as (λ t. cond t (Some n) None ≡ Some i → n ≡ i) [ true ↦ λ h. cc | false ↦ λ h. cc ] (sym e))
    ∙ slice_get-get_or xs i d (position-Some p xs i d (sym e)).0

-- a name of the catalogue stands for the default of its parameter, and another one for nothing
pub default_value_there : (name : List ℕ) (place : ℕ) → Some place ≡ place_of name → default_value_of name ≡ (row_at place).default_value
default_value_there name place at =
    ap (λ (o : Option Row). option_map_or (λ (r : Row). r.default_value) o (Is []))
    (some_there (λ (r : Row). bytes_eq r.name name) catalogue place (row [] Text (Is [])) at)

pub no_default_value : (name : List ℕ) → None ≡ place_of name → default_value_of name ≡ Is []
no_default_value name none =
    ap (λ (o : Option Row). option_map_or (λ (r : Row). r.default_value) o (Is []))
    (none_there (λ (r : Row). bytes_eq r.name name) catalogue none)
