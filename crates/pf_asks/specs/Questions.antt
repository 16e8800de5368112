-- Questions, in postgate's own words: from what the objects outside mean and what is heard from them, an answer, what is still to be
-- heard, and the requests that were made. A definition that asks is a question, written in `do`. Past the end of what is heard lookups
-- and names are answered as meant and every connection is refused, so each question has an answer.
use Rattle.std.specs.Prelude.{ℕ, ◌++◌, List, [], ◌∷◌}
use Rattle.std.specs.Option.{unwrap_or}
use Rattle.pf_asks.specs.Heard.{Heard, next}
use Rattle.pf_asks.specs.Looking.{Looked, Values, value_of}
use Rattle.pf_asks.specs.Resolving.{Asked, answer_of}
use Rattle.pf_asks.specs.Wire.{next_outcome}
use Rattle.pf_asks.specs.declared.links.Outcome.{Outcome}
use Rattle.pf_asks.specs.declared.links.Request.{Request}
use Rattle.pf_asks.specs.declared.resolver.Kind.{Kind}
use Rattle.pf_asks.specs.declared.resolver.Row.{Row}

-- what tables and a resolver mean
pub record Means : Type 0 where
  pub values : Values
  pub rows : List Row

-- an answer, what is still to be heard, and the requests that were made, one a try
pub record Gave (A : Type 0) : Type 0 where
  pub answer : A
  pub left : Heard
  pub asked : List Request

-- a question whose answer is an A
abbrev pub Ask : Type 0 → Type 0
Ask A = Means → Heard → Gave A

-- these requests were made before
abbrev pub behind : {A : Type 0} → List Request → Gave A → Gave A
behind asked gave = record gave { asked = asked ++ gave.asked }

-- it is answered, and nothing was asked
unfoldable pub done : {A : Type 0} → A → Ask A
done x means heard = record { answer = x; left = heard; asked = [] }

-- one question, and then the one that its answer asks
infixl 10 ◌>>=◌
unfoldable pub ◌>>=◌ : {A B : Type 0} → Ask A → (A → Ask B) → Ask B
◌>>=◌ p f means heard = behind (p means heard).asked (f (p means heard).answer means (p means heard).left)

-- one lookup: the place of the table and the key
unfoldable pub look : ℕ → List ℕ → Ask Looked
look id key means heard = record {
  answer = unwrap_or (next heard.looks).0 (value_of id key means.values);
  left = record heard { looks = (next heard.looks).1 };
  asked = [];
}

-- one try of a policy service with a request
unfoldable pub try : List ℕ → List ℕ → Ask Outcome
try service text means heard = record {
  answer = (next_outcome heard.tries).0;
  left = record heard { tries = (next_outcome heard.tries).1 };
  asked = record { service = service; text = text } ∷ [];
}

-- one question to the resolver
unfoldable pub ask : List ℕ → Kind → Ask Asked
ask name kind means heard = record {
  answer = unwrap_or (next heard.asks).0 (answer_of name kind means.rows);
  left = record heard { asks = (next heard.asks).1 };
  asked = [];
}
