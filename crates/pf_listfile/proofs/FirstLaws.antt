-- Where the first element of a list is that passes a test.
use Rattle.std.proofs.Common.{◌≡◌, ◌||◌, ℕ, zero, suc, ◌+◌, ◌-◌, ◌≤◌, ◌<◌, Bool, false, List, [], ◌∷◌, ◌++◌, length, cond, Option, Some, None, refl, ap, subst, ◌∙◌, arith}
use Rattle.std.specs.Prelude.{IfSome}
use Rattle.std.specs.List.{find, position_from, slice_get}
use Rattle.pf_listfile.specs.Clauses.Places.{earlier}
use Rattle.pf_listfile.proofs.Cases.{either_way}

module _ {A : Type 0} (p q : A → Bool) where
  -- a place is not before that of the first element
  pub not_before : (n : ℕ) (xs : List A) → IfSome (position_from p n xs) (λ place. n ≤ place)
  not_before n [] = tt
  not_before n (x ∷ xs) =
      either_way (p x)
      (λ h. rw h (omega arith))
      (λ h. rw h (weaker (position_from p (n + 1) xs) (not_before (n + 1) xs))) where
        weaker : (place : Option ℕ) → IfSome place (λ m. n + 1 ≤ m) → IfSome place (λ m. n ≤ m)
        weaker None h = tt
        weaker (Some m) h = omega (arith, h)

  -- and not after that of the last one
  pub within : (n : ℕ) (xs : List A) → IfSome (position_from p n xs) (λ place. place < n + length xs)
  within n [] = tt
  within n (x ∷ xs) =
      either_way (p x)
      (λ h. rw h (omega arith))
      (λ h. rw h (weaker (position_from p (n + 1) xs) (within (n + 1) xs))) where
        weaker : (place : Option ℕ) → IfSome place (λ m. m < (n + 1) + length xs) → IfSome place (λ m. m < n + length (x ∷ xs))
        weaker None h = tt
        weaker (Some m) h = omega (arith, h)

  -- the elements that pass are alike
  pub alike : ((x : A) → p x ≡ q x) → (n : ℕ) (xs : List A) → position_from p n xs ≡ position_from q n xs
  alike same n [] = refl
  alike same n (x ∷ xs) = ap (λ t. cond t (Some n) (position_from p (n + 1) xs)) (same x) ∙ ap (cond (q x) (Some n)) (alike same (n + 1) xs)

  -- none passes
  pub none_passes : ((x : A) → p x ≡ false) → (n : ℕ) (xs : List A) → position_from p n xs ≡ None
  none_passes never n [] = refl
  none_passes never n (x ∷ xs) = rw (never x) (none_passes never (n + 1) xs)

first_here : (n : ℕ) (other : Option ℕ) → IfSome other (λ place. n + 1 ≤ place) → Some n ≡ earlier (Some n) other
first_here n None h = refl
first_here n (Some place) h = ap Some (omega (arith, h))

other_here : (n : ℕ) (place : Option ℕ) → IfSome place (λ m. n + 1 ≤ m) → Some n ≡ earlier place (Some n)
other_here n None h = refl
other_here n (Some place) h = ap Some (omega (arith, h))

-- the first that passes one of two tests is the earlier of the first ones of both
pub earlier_is : {A : Type 0} (p q : A → Bool) (n : ℕ) (xs : List A)
    → position_from (λ x. p x || q x) n xs ≡ earlier (position_from p n xs) (position_from q n xs)
earlier_is p q n [] = refl
earlier_is p q n (x ∷ xs) =
    either_way (p x)
    (λ h. either_way (q x)
    (λ k. rw (h, k) (ap Some (omega arith)))
    (λ k. rw (h, k) (first_here n (position_from q (n + 1) xs) (not_before q q (n + 1) xs))))
    (λ h. either_way (q x)
    (λ k. rw (h, k) (other_here n (position_from p (n + 1) xs) (not_before p p (n + 1) xs)))
    (λ k. rw (h, k) (earlier_is p q (n + 1) xs)))

-- one element more
abbrev pub or_last : Option ℕ → Bool → ℕ → Option ℕ
or_last None passes place = cond passes (Some place) None
or_last (Some first) passes place = Some first

pub first_more : {A : Type 0} (p : A → Bool) (n : ℕ) (xs : List A) (y : A)
    → position_from p n (xs ++ y ∷ []) ≡ or_last (position_from p n xs) (p y) (length xs + n)
first_more p n [] y = ap (λ m. cond (p y) (Some m) None) (omega arith)
first_more p n (x ∷ xs) y =
    either_way (p x)
    (λ h. rw h refl)
    (λ h. rw h (first_more p (n + 1) xs y ∙ ap (or_last (position_from p (n + 1) xs) (p y)) (omega arith)))

-- the element at the first place is the first that passes
pub found_at : {A : Type 0} (p : A → Bool) (n : ℕ) (xs : List A) (place : ℕ) → position_from p n xs ≡ Some place → find p xs ≡ slice_get xs (place - n)
found_at p n [] place is = cc
found_at p n (x ∷ xs) place is =
    either_way (p x)
    (λ h. let here : n ≡ place = some_is (rw h at is) in rw h (let none : place - n ≡ zero = omega (arith, here) in rw none refl))
    (λ h. let behind : position_from p (n + 1) xs ≡ Some place = rw h at is in
    let later : n + 1 ≤ place = later_is (position_from p (n + 1) xs) behind (not_before p p (n + 1) xs) in
    let next : place - n ≡ suc (place - (n + 1)) = omega (arith, later) in
    rw (h, next) (found_at p (n + 1) xs place behind))
  where
    some_is : Some n ≡ Some place → n ≡ place
    some_is e = cc

    later_is : (first : Option ℕ) → first ≡ Some place → IfSome first (λ m. n + 1 ≤ m) → n + 1 ≤ place
    later_is first e h = subst (λ o. IfSome o (λ m. n + 1 ≤ m)) e h

pub found_none : {A : Type 0} (p : A → Bool) (n : ℕ) (xs : List A) → position_from p n xs ≡ None → find p xs ≡ None
found_none p n [] is = refl
found_none p n (x ∷ xs) is =
    either_way (p x)
    (λ h. absurd (some_none (rw h at is)))
    (λ h. rw h (found_none p (n + 1) xs (rw h at is))) where
      some_none : Some n ≡ None → ⊥
      some_none e = cc
