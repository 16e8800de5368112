-- What was added of the table texts of a list. Words of the code's contracts, by no standard.
use Rattle.std.specs.Prelude.{◌≡◌, ℕ, ◌++◌, List}
use Rattle.pf_base.specs.TableTexts.{TableTexts}
use Rattle.pf_catalogue.specs.Tables.{with_texts}

-- of the texts of a setting at a line these are left, and those before them were added
pub record AddsUpTo (line : ℕ) (old new : TableTexts) (texts left : List (List ℕ)) : Type 0 where
  pub added : List (List ℕ)
  pub parts : texts ≡ added ++ left
  pub is : new ≡ with_texts line old added

-- a prefix of the texts was added
pub record AddsPrefix (line : ℕ) (old new : TableTexts) (texts : List (List ℕ)) : Type 0 where
  pub left : List (List ℕ)
  pub adds : AddsUpTo line old new texts left
