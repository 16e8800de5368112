-- What contracts say of a call that asks: it led from one question to another. Words of contracts, by no standard.
use Rattle.std.specs.Prelude.{◌≡◌, ◌≢◌, ◌≤◌, ◌+◌, ◌⊎◌, ◌++◌, ℕ, false, List, [], ◌∷◌, Option, None, Some, Result, Ok, Err, MatchResult, take, length}
use Rattle.std.specs.List.{count_by}
use Rattle.pf_base.specs.Outside.Counts.{counted_by}
use Rattle.pf_asks.specs.Heard.{Heard, ◌then◌}
use Rattle.pf_asks.specs.Clauses.Held.{Held, Hears, Tells, called}
use Rattle.pf_asks.specs.Looking.{Looked, Stays, Tables, look_failed, looked_up}
use Rattle.pf_asks.specs.Questions.{Ask, Means, ask, behind, done, look, try, ◌>>=◌}
use Rattle.pf_asks.specs.Resolving.{Asked, ask_failed}
use Rattle.pf_asks.specs.Tries.{Try}
use Rattle.pf_asks.specs.Wire.{Wire, hung_up, is_down, next_outcome}
use Rattle.pf_asks.specs.declared.links.LinkStep.TheVariants.{Connect, Send, Receive}
use Rattle.pf_asks.specs.declared.links.Outcome.{Outcome}
use Rattle.pf_asks.specs.declared.links.Outcome.TheVariants.{Down, Reply}
use Rattle.pf_asks.specs.declared.links.Request.{Request}
use Rattle.pf_asks.specs.declared.lookup.TableFault.TheVariants.{NoMemory}
use Rattle.pf_asks.specs.declared.resolver.Kind.{Kind}
use Rattle.pf_asks.specs.declared.resolver.Row.{Row}

-- what was sent of a request: nothing where the connection was refused, a prefix where sending failed, else all of it
abbrev pub IsSent : Outcome → List ℕ → List ℕ → Type 0
IsSent (Down Connect) text sent = sent ≡ []
IsSent (Down Send) text sent = (n : ℕ) × (sent ≡ take n text)
IsSent (Down Receive) text sent = sent ≡ text
IsSent (Reply bytes) text sent = sent ≡ text

-- a try of this service was made, was sent this, and is over
abbrev pub tried : List ℕ → List ℕ → Wire → Wire
tried service sent wire = record {
  outcomes = (next_outcome wire.outcomes).1;
  tries = wire.tries ++ (record { service = service; text = sent } ∷ []);
  opened = None;
}

-- the requests were made in turn, one a try, and each try gave the next outcome
abbrev pub Uses : Wire → List Request → List Outcome → Wire → Type 0
Uses old [] [] new = new ≡ old
Uses old [] (outcome ∷ outcomes) new = ⊥
Uses old (request ∷ asked) [] new = ⊥
Uses old (request ∷ asked) (outcome ∷ outcomes) new =
    (sent : List ℕ) × IsSent outcome request.text sent × (outcome ≡ (next_outcome old.outcomes).0) × Uses (tried request.service sent old) asked outcomes new

-- the same of links, of which nothing may be known
abbrev pub UsesKnown : Option Wire → List Request → List Outcome → Option Wire → Type 0
UsesKnown None asked heard new = new ≡ None
UsesKnown (Some wire) asked heard new = (after : Wire) × (new ≡ Some after) × Uses wire asked heard after

-- this was heard of some lookups
pub record Looks (old new : Tables) (heard : List (Option Looked)) : Type 0 where
  pub stays : Stays (length heard) old new
  pub hears : Hears look_failed old.held new.held heard

-- this was heard of some tries; just as many were down as the count of faults rose
pub record Links (old new : Held Wire) (asked : List Request) (heard : List Outcome) : Type 0 where
  pub faults : new.faults ≡ counted_by (count_by is_down heard) old.faults
  pub uses : UsesKnown old.content asked heard new.content

-- what is asked: tables, policy services, and a resolver
pub record World : Type 0 where
  pub tables : Tables
  pub links : Held Wire
  pub resolver : Held (List Row)

abbrev pub world : Tables → Held Wire → Held (List Row) → World
world tables links resolver = record { tables = tables; links = links; resolver = resolver }

-- what known objects mean
pub record Meant (w : World) (means : Means) : Type 0 where
  pub values : Tells w.tables.held.content means.values
  pub rows : Tells w.resolver.content means.rows

-- something is heard, and requests are made, that lead from the one question to the other, whatever is heard after it
pub record Led {A : Type 0} (old new : World) (p q : Ask A) : Type 0 where
  pub heard : Heard
  pub asked : List Request
  pub tables : Looks old.tables new.tables heard.looks
  pub links : Links old.links new.links asked heard.tries
  pub resolver : Hears ask_failed old.resolver new.resolver heard.asks
  pub is : (means : Means) → Meant old means → (more : Heard) → p means (heard then more) ≡ behind asked (q means more)

-- the objects have answered a question so
abbrev pub Answers : {A : Type 0} → World → World → Ask A → A → Type 0
Answers old new p x = Led old new p (done x)

-- tables alone have led from the one question to the other
abbrev pub TablesLed : {A : Type 0} → Tables → Tables → Ask A → Ask A → Type 0
TablesLed old new p q = (w : World) → Led (record w { tables = old }) (record w { tables = new }) p q

-- policy services alone have
abbrev pub LinksLed : {A : Type 0} → Held Wire → Held Wire → Ask A → Ask A → Type 0
LinksLed old new p q = (w : World) → Led (record w { links = old }) (record w { links = new }) p q

-- the resolver alone has
abbrev pub ResolverLed : {A : Type 0} → Held (List Row) → Held (List Row) → Ask A → Ask A → Type 0
ResolverLed old new p q = (w : World) → Led (record w { resolver = old }) (record w { resolver = new }) p q

-- they have answered a question so
abbrev pub ByTables : {A : Type 0} → Tables → Tables → Ask A → A → Type 0
ByTables old new p x = TablesLed old new p (done x)

abbrev pub ByLinks : {A : Type 0} → Held Wire → Held Wire → Ask A → A → Type 0
ByLinks old new p x = LinksLed old new p (done x)

abbrev pub ByResolver : {A : Type 0} → Held (List Row) → Held (List Row) → Ask A → A → Type 0
ByResolver old new p x = ResolverLed old new p (done x)

-- a try that lack of memory broke off: none was begun, or a prefix of its request was sent; it is over, and counted no fault
abbrev pub IsCut : Option Wire → Option Wire → List ℕ → List ℕ → Type 0
IsCut None new service text = new ≡ None
IsCut (Some wire) new service text = (new ≡ Some (hung_up wire)) ⊎ ((n : ℕ) × (new ≡ Some (tried service (take n text) wire)))

pub record Cut (old new : Held Wire) (service text : List ℕ) : Type 0 where
  pub faults : new.faults ≡ old.faults
  pub wire : IsCut old.content new.content service text

-- the question had come down to a lookup, which wanted memory
pub record WantsAtLookup {A : Type 0} (old new : World) (p : Ask A) : Type 0 where
  pub mid : World
  pub id : ℕ
  pub key : List ℕ
  pub more : Looked → Ask A
  pub led : Led old mid p (look id key >>= more)
  pub left : new ≡ record mid { tables = looked_up (Err NoMemory) mid.tables }

-- or to a question to the resolver
pub record WantsAtName {A : Type 0} (old new : World) (p : Ask A) : Type 0 where
  pub mid : World
  pub name : List ℕ
  pub kind : Kind
  pub more : Asked → Ask A
  pub led : Led old mid p (ask name kind >>= more)
  pub left : new ≡ record mid { resolver = called false mid.resolver }

-- or to a try
pub record WantsAtTry {A : Type 0} (old new : World) (p : Ask A) : Type 0 where
  pub mid : World
  pub links : Held Wire
  pub service : List ℕ
  pub text : List ℕ
  pub more : Outcome → Ask A
  pub led : Led old mid p (try service text >>= more)
  pub cut : Cut mid.links links service text
  pub left : new ≡ record mid { links = links }

-- lack of memory broke a question off
abbrev pub BrokenOff : {A : Type 0} → World → World → Ask A → Type 0
BrokenOff old new p = WantsAtLookup old new p ⊎ (WantsAtName old new p ⊎ WantsAtTry old new p)

-- it broke off a question of tables alone, of policy services, or of the resolver
abbrev pub TablesBroken : {A : Type 0} → Tables → Tables → Ask A → Type 0
TablesBroken old new p = (w : World) → BrokenOff (record w { tables = old }) (record w { tables = new }) p

abbrev pub LinksBroken : {A : Type 0} → Held Wire → Held Wire → Ask A → Type 0
LinksBroken old new p = (w : World) → BrokenOff (record w { links = old }) (record w { links = new }) p

abbrev pub ResolverBroken : {A : Type 0} → Held (List Row) → Held (List Row) → Ask A → Type 0
ResolverBroken old new p = (w : World) → BrokenOff (record w { resolver = old }) (record w { resolver = new }) p

-- a call answered the question, or lack of memory broke it off
abbrev pub Asks : {A E : Type 0} → World → World → Ask A → Result A E → Type 0
Asks old new p result = MatchResult result (Answers old new p) (λ _. BrokenOff old new p)

abbrev pub AsksTables : {A E : Type 0} → Tables → Tables → Ask A → Result A E → Type 0
AsksTables old new p result = MatchResult result (ByTables old new p) (λ _. TablesBroken old new p)

abbrev pub AsksLinks : {A E : Type 0} → Held Wire → Held Wire → Ask A → Result A E → Type 0
AsksLinks old new p result = MatchResult result (ByLinks old new p) (λ _. LinksBroken old new p)

abbrev pub AsksResolver : {A E : Type 0} → Held (List Row) → Held (List Row) → Ask A → Result A E → Type 0
AsksResolver old new p result = MatchResult result (ByResolver old new p) (λ _. ResolverBroken old new p)

-- the same of tables and a question that a fault may end, where this fault is lack of memory
abbrev pub TriesTables : {A E : Type 0} → Tables → Tables → E → Try E A → Result A E → Type 0
TriesTables old new no_memory p result = MatchResult result (λ x. ByTables old new p (Ok x))
    (λ fault. (fault ≢ no_memory → ByTables old new p (Err fault)) × (fault ≡ no_memory → TablesBroken old new p))

-- two questions are answered alike
pub record Same {A : Type 0} (p q : Ask A) : Type 0 where
  pub same : (means : Means) (heard : Heard) → p means heard ≡ q means heard

-- a question makes at most so many lookups
pub record AtMost {A : Type 0} (n : ℕ) (p : Ask A) : Type 0 where
  pub looks : (means : Means) (heard : Heard) → length heard.looks ≤ length (p means heard).left.looks + n
