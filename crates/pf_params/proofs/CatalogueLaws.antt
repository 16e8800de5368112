-- The parameters in the order of the table, one by one.
use Rattle.std.proofs.Common.{◌≡◌, ℕ, ◌+◌, ◌<◌, suc, [], ◌∷◌, drop, length, refl, ap, ◌∙◌, arith}
use Rattle.std.proofs.Math.Seq.{drop-cons}
use Rattle.pf_catalogue.specs.Catalogue.{catalogue, row_at}
use Rattle.pf_catalogue.specs.declared.count.TheConstants.{PARAMS}

pub count : length catalogue ≡ PARAMS
unfolding catalogue
count = refl

-- none is left after the last one
pub ended : drop PARAMS catalogue ≡ []
unfolding catalogue
ended = refl

-- the parameter at a place comes before those after it
pub drop_row : (place : ℕ) → place < PARAMS → drop place catalogue ≡ row_at place ∷ drop (place + 1) catalogue
drop_row place within = drop-cons catalogue place _ (omega (arith, count)) ∙ ap (λ n. row_at place ∷ drop n catalogue) (one place) where
  one : (n : ℕ) → suc n ≡ n + 1
  one n = omega arith
