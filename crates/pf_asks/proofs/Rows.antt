-- Worked examples of the definitions, each by computation.
use Rattle.std.proofs.Common.{◌≡◌, ℕ, zero, suc, true, false, List, [], ◌∷◌, None, Some, Ok, Err, refl, codes}
use Rattle.pf_asks.specs.Heard.{marked, next, nothing, ◌then◌}
use Rattle.pf_asks.specs.Clauses.Held.{failures}
use Rattle.pf_asks.specs.Clauses.Led.{tried}
use Rattle.pf_asks.specs.Looking.{Looked, Values, look_failed, results_of, value_of}
use Rattle.pf_asks.specs.Questions.{Means, look, try, ◌>>=◌}
use Rattle.pf_asks.specs.Resolving.{answer_of, or_again}
use Rattle.pf_asks.specs.Wire.{begun, hung_up, next_outcome}
use Rattle.pf_asks.specs.declared.links.LinkStep.TheVariants.{Connect, Send}
use Rattle.pf_asks.specs.declared.links.Outcome.TheVariants.{Down, Reply}
use Rattle.pf_asks.specs.declared.lookup.Found.TheVariants.{Value}
use Rattle.pf_asks.specs.declared.lookup.Results.TheVariants.{Listed}
use Rattle.pf_asks.specs.declared.lookup.TableFault.TheVariants.{Fails, Failed}
use Rattle.pf_asks.specs.declared.resolver.Answer.TheVariants as answer
use Rattle.pf_asks.specs.declared.resolver.AskFault.TheVariants as ask_fault
use Rattle.pf_asks.specs.declared.resolver.Kind.TheVariants.{A, Mx}

-- the first table has one value, and the others fail; the resolver knows one address
abbrev values : Values
values zero = record { value = λ key. Some (Value (codes "1")); partial_keys = true; results = Listed (codes "1" ∷ []) }
values (suc id) = record { value = λ key. None; partial_keys = true; results = Listed [] }

abbrev means : Means
means = record { values = values; rows = record { kind = A; name = codes "a.test"; answer = answer.Found (codes "192.0.2.1" ∷ []) } ∷ [] }

-- what is heard
past_the_end : next {A = Looked} [] ≡ (None, [])
past_the_end = refl

past_the_outcomes : next_outcome [] ≡ (Down Connect, [])
past_the_outcomes = refl

failed_lookups : failures look_failed (marked (true ∷ false ∷ true ∷ [])).looks ≡ 2
failed_lookups = refl

in_turn : (marked (true ∷ []) then marked (false ∷ [])) ≡ marked (true ∷ false ∷ [])
in_turn = refl

-- lookups
table_that_fails : value_of 1 (codes "k") values ≡ Err Fails
table_that_fails = refl

results_of_the_first_table : results_of 0 values ≡ Ok (Listed (codes "1" ∷ []))
results_of_the_first_table = refl

marked_lookup : look 0 (codes "k") means (marked (true ∷ false ∷ [])) ≡ record { answer = Err Failed; left = marked (false ∷ []); asked = [] }
unfolding look
marked_lookup = refl

lookup_past_the_marks : look 0 (codes "k") means nothing ≡ record { answer = Ok (Value (codes "1")); left = nothing; asked = [] }
unfolding look
lookup_past_the_marks = refl

-- questions to a resolver
name_in_any_case : answer_of (codes "A.Test") A means.rows ≡ Ok (answer.Found (codes "192.0.2.1" ∷ []))
name_in_any_case = refl

another_kind : answer_of (codes "a.test") Mx means.rows ≡ Ok answer.Missing
another_kind = refl

failed_question : or_again (Err ask_fault.Failed) ≡ answer.Again
failed_question = refl

-- a try, and then a lookup that fails
try_and_lookup : (try (codes "policy") (codes "request") >>= λ outcome. look 0 (codes "k")) means (record (marked (true ∷ [])) { tries = Down Send ∷ Reply [] ∷ [] })
    ≡ record { answer = Err Failed; left = record nothing { tries = Reply [] ∷ [] }; asked = record { service = codes "policy"; text = codes "request" } ∷ [] }
unfolding look try ◌>>=◌
try_and_lookup = refl

-- a try that was begun and sent nothing is one that is over, once it was hung up
begun_and_over : hung_up (begun (codes "policy") (record { outcomes = Down Connect ∷ []; tries = []; opened = None }))
    ≡ tried (codes "policy") [] (record { outcomes = Down Connect ∷ []; tries = []; opened = None })
begun_and_over = refl
