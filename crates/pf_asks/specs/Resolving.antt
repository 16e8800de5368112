-- Questions to a resolver (RFC 1034, 5; RFC 1035, 2.3.3), as contracts see them.
use Rattle.std.specs.Prelude.{◌≢◌, ℕ, ◌&&◌, Bool, true, false, List, [], Option, None, Some, Result, Ok, Err}
use Rattle.std.specs.List.{find}
use Rattle.std.specs.Str.{bytes_eq}
use Rattle.pf_base.specs.Text.Names.{folded}
use Rattle.pf_asks.specs.declared.resolver.Answer.{Answer}
use Rattle.pf_asks.specs.declared.resolver.Answer.TheVariants.{Found, Missing, Again}
use Rattle.pf_asks.specs.declared.resolver.AskFault.{AskFault}
use Rattle.pf_asks.specs.declared.resolver.AskFault.TheVariants.{Failed, NoMemory}
use Rattle.pf_asks.specs.declared.resolver.Kind.{Kind}
use Rattle.pf_asks.specs.declared.resolver.Kind.TheVariants.{A, Aaaa, Mx, Ptr}
use Rattle.pf_asks.specs.declared.resolver.Row.{Row}

-- what one question is answered
abbrev pub Asked : Type 0
Asked = Result Answer AskFault

-- it failed from outside
abbrev pub ask_failed : Asked → Bool
ask_failed (Ok answer) = false
ask_failed (Err Failed) = true
ask_failed (Err NoMemory) = false

-- a Found has at least one value
abbrev pub HasValues : Answer → Type 0
HasValues (Found values) = values ≢ []
HasValues Missing = Unit {0}
HasValues Again = Unit {0}

abbrev pub same_kind : Kind → Kind → Bool
same_kind A A = true
same_kind Aaaa Aaaa = true
same_kind Mx Mx = true
same_kind Ptr Ptr = true
same_kind one other = false

-- the answer of a row; without a row there is no such record
abbrev pub answer_in : Option Row → Answer
answer_in None = Missing
answer_in (Some row) = row.answer

-- what a resolver with these rows answers: the first row of this kind and of this name in small letters
abbrev pub answer_of : List ℕ → Kind → List Row → Asked
answer_of name kind rows = Ok (answer_in (find (λ row. same_kind row.kind kind && bytes_eq row.name (folded name)) rows))

-- a question that failed cannot be answered now
abbrev pub or_again : Asked → Answer
or_again (Ok answer) = answer
or_again (Err fault) = Again
