-- A choice either way.
use Rattle.std.proofs.Common.{◌≡◌, Bool, true, false, refl}

pub either_way : {P : Type 0} (b : Bool) → (b ≡ true → P) → (b ≡ false → P) → P
either_way true f g = f refl
either_way false f g = g refl
