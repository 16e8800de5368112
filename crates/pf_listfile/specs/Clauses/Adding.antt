-- What is added to a list, where there is something to add. Words of contracts, by no standard.
use Rattle.std.specs.Prelude.{◌++◌, Bool, true, false, List, Option, None, Some, Result, Ok}
use Rattle.std.specs.Option.{option_map}
use Rattle.pf_base.specs.Results.{◌>>=◌}
use Rattle.pf_base.specs.declared.refused.Refused.{Refused}

-- a list with more after it, if there is more
abbrev pub behind : {A : Type 0} → List A → Option (List A) → Option (List A)
behind prefix more = option_map (λ xs. prefix ++ xs) more

-- this, where it is so
abbrev pub when : {A : Type 0} → Bool → A → Option A
when true x = Some x
when false x = None

-- a list with more after it, unless that is refused
abbrev pub joined : {A : Type 0} → List A → Result (List A) Refused → Result (List A) Refused
joined prefix answer = do
  more ← answer
  Ok (prefix ++ more)
