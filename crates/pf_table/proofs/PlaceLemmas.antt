-- Lists that are taken place by place.
use Rattle.std.proofs.Common.{◌≡◌, ◌+◌, ◌++◌, ℕ, zero, suc, List, [], ◌∷◌, Some, take, refl, ap, arith}
use Rattle.std.specs.Option.{option_to_list}
use Rattle.std.specs.Prelude.{slice_get}

step : {A : Type 0} (xs : List A) (i : ℕ) → take (suc i) xs ≡ take i xs ++ option_to_list (slice_get xs i)
step [] zero = refl
step [] (suc i) = refl
step (x ∷ xs) zero = refl
step (x ∷ xs) (suc i) = ap (λ more. x ∷ more) (step xs i)

-- one place more
pub take_next : {A : Type 0} (xs : List A) (i : ℕ) → take (i + 1) xs ≡ take i xs ++ option_to_list (slice_get xs i)
take_next xs i = let e : i + 1 ≡ suc i = omega arith in rw e (step xs i)

-- the item at that place put to those before it
pub take_pushed : {A : Type 0} (xs ys : List A) (i : ℕ) (x : A) → ys ≡ take i xs → slice_get xs i ≡ Some x → ys ++ x ∷ [] ≡ take (i + 1) xs
take_pushed xs ys i x before at = rw (take_next xs i, at, before) refl
