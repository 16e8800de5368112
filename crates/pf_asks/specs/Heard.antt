-- What is heard from outside while a question is answered. By no standard.
use Rattle.std.specs.Prelude.{◌++◌, Bool, List, [], ◌∷◌, Option, None, Some, Err, cond, map}
use Rattle.pf_asks.specs.Looking.{Looked}
use Rattle.pf_asks.specs.Resolving.{Asked}
use Rattle.pf_asks.specs.declared.links.Outcome.{Outcome}
use Rattle.pf_asks.specs.declared.lookup.TableFault.TheVariants.{Failed}

-- in order, of each lookup and each question to the resolver what is heard in place of what is meant, and of each try what it gives
pub record Heard : Type 0 where
  pub looks : List (Option Looked)
  pub tries : List Outcome
  pub asks : List (Option Asked)

-- nothing is heard
abbrev pub nothing : Heard
nothing = record { looks = []; tries = []; asks = [] }

-- the one is heard and then the other
infixr 20 ◌then◌
abbrev pub ◌then◌ : Heard → Heard → Heard
first then second = record { looks = first.looks ++ second.looks; tries = first.tries ++ second.tries; asks = first.asks ++ second.asks }

-- what is heard of the next call, and after it; past the end each is answered as meant
abbrev pub next : {A : Type 0} → List (Option A) → Option A × List (Option A)
next [] = (None, [])
next (one ∷ more) = (one, more)

-- marks of lookups in turn: a marked one fails from outside, the others are answered as meant
abbrev pub marked : List Bool → Heard
marked marks = record nothing { looks = map (λ mark. cond mark (Some (Err Failed)) None) marks }
