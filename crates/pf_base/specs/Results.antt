-- Results one after the other, as definitions write them in `do`.
use Rattle.std.specs.Prelude.{Result, Ok, Err}

-- the one and then the other, unless the first is an error
infixl 10 ◌>>=◌
abbrev pub ◌>>=◌ : {A B E : Type 0} → Result A E → (A → Result B E) → Result B E
Ok x >>= f = f x
Err e >>= f = Err e
