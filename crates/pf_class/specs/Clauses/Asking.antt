-- What contracts say of a call that asks tables and takes memory of its own between two lookups. Words of contracts, by no standard.
use Rattle.std.specs.Prelude.{◌≡◌, ◌≢◌, ◌≤◌, ◌⊎◌, Result, Ok, Err, MatchResult, length}
use Rattle.pf_asks.specs.Clauses.Led.{ByTables, TablesBroken, TablesLed}
use Rattle.pf_asks.specs.Heard.{Heard}
use Rattle.pf_asks.specs.Looking.{Tables}
use Rattle.pf_asks.specs.Questions.{Ask, Means}
use Rattle.pf_asks.specs.Tries.{Try}
use Rattle.pf_class.specs.declared.fault.ClassFault.{ClassFault}
use Rattle.pf_class.specs.declared.fault.ClassFault.TheVariants.{NoMemory}

-- after a question there is no more to be heard than before it
pub record HearsOn {A : Type 0} (p : Ask A) : Type 0 where
  pub looks : (means : Means) (heard : Heard) → length (p means heard).left.looks ≤ length heard.looks

-- memory was wanting where the tables had led to the rest of a question
pub record Wants {A : Type 0} (old new : Tables) (p : Ask A) : Type 0 where
  pub rest : Ask A
  pub hears : HearsOn rest
  pub led : TablesLed old new p rest

-- lack of memory broke a question off, in a lookup or between two
abbrev pub Leaves : {A : Type 0} → Tables → Tables → Ask A → Type 0
Leaves old new p = TablesBroken old new p ⊎ Wants old new p

-- a question ended with this fault
abbrev pub EndsWith : {A : Type 0} → Tables → Tables → Try ClassFault A → ClassFault → Type 0
EndsWith old new p fault = (fault ≢ NoMemory → ByTables old new p (Err fault)) × (fault ≡ NoMemory → Leaves old new p)

-- a question was answered so, or lack of memory broke it off
abbrev pub TriesOrWants : {A : Type 0} → Tables → Tables → Try ClassFault A → Result A ClassFault → Type 0
TriesOrWants old new p result = MatchResult result (λ x. ByTables old new p (Ok x)) (EndsWith old new p)

-- what a call that asks nothing answers, unless memory is wanting
abbrev pub IsOrWants : {A : Type 0} → Result A ClassFault → A → Type 0
IsOrWants result x = MatchResult result (λ y. y ≡ x) (λ fault. fault ≡ NoMemory)
