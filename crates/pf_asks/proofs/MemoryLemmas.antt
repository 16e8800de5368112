-- What a resolver in memory answers.
use Rattle.std.proofs.Common.{◌≡◌, ℕ, Bool, true, false, List, [], ◌∷◌, Some, Err, refl}
use Rattle.std.proofs.lemmas.Bool.{and_parts}
use Rattle.std.specs.Prelude.{cond}
use Rattle.std.specs.List.{find}
use Rattle.pf_asks.specs.Clauses.Held.{Answered}
use Rattle.pf_asks.specs.Clauses.Memory.{has_values, have_values}
use Rattle.pf_asks.specs.Resolving.{HasValues, answer_in, answer_of, ask_failed}
use Rattle.pf_asks.specs.declared.resolver.Answer.{Answer}
use Rattle.pf_asks.specs.declared.resolver.Answer.TheVariants.{Found, Missing, Again}
use Rattle.pf_asks.specs.declared.resolver.AskFault.TheVariants.{Failed}
use Rattle.pf_asks.specs.declared.resolver.Kind.{Kind}
use Rattle.pf_asks.specs.declared.resolver.Row.{Row}

some_values : (answer : Answer) → has_values answer ≡ true → HasValues answer
some_values (Found []) has = cc
some_values (Found (value ∷ values)) has = λ e. cc
some_values Missing has = tt
some_values Again has = tt

-- a row that is found has values where all have
pub found_has_values : (test : Row → Bool) (rows : List Row) → have_values rows ≡ true → HasValues (answer_in (find test rows))
found_has_values test [] all = tt
found_has_values test (row ∷ rows) all =
    let parts = and_parts (has_values row.answer) (have_values rows) all in
    pick (test row) (found_has_values test rows parts.1)
  where
    pick : (b : Bool) → HasValues (answer_in (find test rows)) → HasValues (answer_in (cond b (Some row) (find test rows)))
    pick true rest = some_values row.answer (and_parts (has_values row.answer) (have_values rows) all).0
    pick false rest = rest

-- a question that failed
pub failed_question : (rows : List Row) (name : List ℕ) (kind : Kind) → Answered ask_failed (Some rows) (answer_of name kind) (Err Failed)
failed_question rows name kind = record { heard = Some (Err Failed); only = λ known e. refl; is = λ known knows. refl }
