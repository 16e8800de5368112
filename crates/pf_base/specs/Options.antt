-- Options one after the other, as definitions write them in `do`.
use Rattle.std.specs.Prelude.{Option}
use Rattle.std.specs.Option.{option_and_then}

-- the one and then the other, where both are
infixl 10 ◌>>=◌
abbrev pub ◌>>=◌ : {A B : Type 0} → Option A → (A → Option B) → Option B
o >>= f = option_and_then f o
