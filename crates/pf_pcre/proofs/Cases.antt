-- A choice either way.
use Rattle.std.proofs.Common.{◌≡◌, Bool, true, false, List, [], ◌∷◌, Option, Some, None, refl}

pub either_way : {P : Type 0} (b : Bool) → (b ≡ true → P) → (b ≡ false → P) → P
either_way true f g = f refl
either_way false f g = g refl

pub either_list : {A P : Type 0} (xs : List A) → (xs ≡ [] → P) → ((y : A) (ys : List A) → xs ≡ y ∷ ys → P) → P
either_list [] f g = f refl
either_list (y ∷ ys) f g = g y ys refl

pub either_option : {A P : Type 0} (o : Option A) → (o ≡ None → P) → ((x : A) → o ≡ Some x → P) → P
either_option None f g = f refl
either_option (Some x) f g = g x refl
