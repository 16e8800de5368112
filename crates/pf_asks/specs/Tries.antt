-- Questions that a fault ends, as `?` ends a function. Words of definitions, by no standard.
use Rattle.std.specs.Prelude.{Result, Ok, Err}
use Rattle.pf_asks.specs.Questions as questions
use Rattle.pf_asks.specs.Questions.{Ask, done}

-- a question that answers an A or a fault
abbrev pub Try : Type 0 → Type 0 → Type 0
Try E A = Ask (Result A E)

-- it is answered without a fault
abbrev pub ok : {E A : Type 0} → A → Try E A
ok x = done (Ok x)

-- the answer goes on, and a fault stays
abbrev pub on_ok : {E A B : Type 0} → (A → Try E B) → Result A E → Try E B
on_ok f (Ok x) = f x
on_ok f (Err fault) = done (Err fault)

-- one question, and then the one that its answer asks; a fault ends both
infixl 10 ◌>>=◌
abbrev pub ◌>>=◌ : {E A B : Type 0} → Try E A → (A → Try E B) → Try E B
p >>= f = questions.◌>>=◌ p (on_ok f)
