-- What an answer is, unless it was out of memory. A word of contracts, by no standard.
use Rattle.std.specs.Prelude.{◌≢◌, Result, Ok, Err, MatchResult}

-- P holds of the answer, or it is lack of memory, which is free
abbrev pub Unless : {A E : Type 0} → Result A E → E → (Result A E → Type 0) → Type 0
Unless r no_memory P = MatchResult r (λ x. P (Ok x)) (λ e. e ≢ no_memory → P (Err e))
