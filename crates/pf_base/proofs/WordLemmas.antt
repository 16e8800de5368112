-- A text that is parted outside braces.
use Rattle.std.proofs.Common.{◌≡◌, ℕ, true, false, if◌then◌else◌, List, [], ◌∷◌, ◌++◌, refl}
use Rattle.std.specs.List.{onto_first}
use Rattle.std.specs.Prelude.{◌&&◌, ◌==◌}
use Rattle.pf_base.specs.Text.Braces.{open_behind}
use Rattle.pf_base.specs.Text.Words.{is_separator, parted}

-- the parts, the first of which has these bytes before it
abbrev pub onto_part : List ℕ → List (List ℕ) → List (List ℕ)
onto_part bytes [] = bytes ∷ []
onto_part bytes (part ∷ parts) = (bytes ++ part) ∷ parts

onto_none : (b : ℕ) (parts : List (List ℕ)) → onto_part [] (onto_first b parts) ≡ onto_first b parts
onto_none b [] = refl
onto_none b (part ∷ parts) = refl

-- there is always a first part
pub parted_whole : (depth : ℕ) (text : List ℕ) → onto_part [] (parted depth text) ≡ parted depth text
parted_whole depth [] = refl
parted_whole depth (b ∷ text) =
    let parts = parted (open_behind depth b) text in
    elim (depth == 0 && is_separator b) as (λ t. onto_part [] (if t then [] ∷ parted 0 text else onto_first b parts) ≡ (if t then [] ∷ parted 0 text else onto_first b parts)) [
      | true ↦ refl
      | false ↦ onto_none b parts
    ]
