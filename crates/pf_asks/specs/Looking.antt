-- Lookups in tables (DATABASE_README), as contracts see them. Words of contracts.
use Rattle.std.specs.Prelude.{◌≡◌, ◌<◌, ◌≤◌, ℕ, ◌+◌, Bool, true, false, List, Option, Some, Result, Ok, Err}
use Rattle.std.specs.List.{All, list_any}
use Rattle.std.specs.Option.{ok_or}
use Rattle.std.specs.Str.{bytes_eq}
use Rattle.pf_base.specs.Outside.Counts.{counted_by}
use Rattle.pf_asks.specs.Clauses.Held.{Held, called}
use Rattle.pf_asks.specs.declared.lookup.Found.{Found}
use Rattle.pf_asks.specs.declared.lookup.Found.TheVariants.{Value}
use Rattle.pf_asks.specs.declared.lookup.Results.{Results}
use Rattle.pf_asks.specs.declared.lookup.Results.TheVariants.{Listed, Anything}
use Rattle.pf_asks.specs.declared.lookup.TableFault.{TableFault}
use Rattle.pf_asks.specs.declared.lookup.TableFault.TheVariants.{Fails, Failed, NoMemory}
use Rattle.pf_base.specs.declared.table_texts.TableId.{TableId}

-- what one lookup answers
abbrev pub Looked : Type 0
Looked = Result Found TableFault

-- it failed from outside
abbrev pub look_failed : Looked → Bool
look_failed (Ok found) = false
look_failed (Err Fails) = false
look_failed (Err Failed) = true
look_failed (Err NoMemory) = false

-- what a table means: at each key a value or none, or that it fails; whether it is asked for parts of a key; and which values it may give
pub record Meaning : Type 0 where
  pub value : List ℕ → Option Found
  pub partial_keys : Bool
  pub results : Results

-- what it answers at a key
abbrev pub answer_of : Meaning → List ℕ → Looked
answer_of meaning key = ok_or (meaning.value key) Fails

-- a value is among results
abbrev pub IsAmong : List ℕ → Results → Type 0
IsAmong value (Listed values) = list_any (bytes_eq value) values ≡ true
IsAmong value Anything = Unit {0}

-- a table gives no value that is not among its results
abbrev pub HasAll : Meaning → Type 0
HasAll meaning = (key value : List ℕ) → meaning.value key ≡ Some (Value value) → IsAmong value meaning.results

-- what tables mean, by their places
abbrev pub Values : Type 0
Values = ℕ → Meaning

-- what a lookup answers where the tables mean this
abbrev pub value_of : ℕ → List ℕ → Values → Looked
value_of id key values = answer_of (values id) key

-- what is answered that asks for the results of a table
abbrev pub Listing : Type 0
Listing = Result Results TableFault

-- it failed from outside
abbrev pub listing_failed : Listing → Bool
listing_failed (Ok results) = false
listing_failed (Err Fails) = false
listing_failed (Err Failed) = true
listing_failed (Err NoMemory) = false

-- what is answered where the tables mean this
abbrev pub results_of : ℕ → Values → Listing
results_of id values = Ok ((values id).results)

-- what contracts see of tables: what they mean and how often a call has failed, how many lookups there were, how many tables
-- there are, which of them have partial keys, and whether they are sound
pub record Tables : Type 0 where
  pub held : Held Values
  pub finds : ℕ
  pub count : ℕ
  pub partial : ℕ → Bool
  pub sound : Bool

-- a lookup was made and answered so: it was counted, and its fault where it failed
abbrev pub looked_up : Looked → Tables → Tables
looked_up result old = record old { held = called (look_failed result) old.held; finds = counted_by 1 old.finds }

-- results were asked for and answered so: no lookup was counted, but the fault where it failed
abbrev pub listed : Listing → Tables → Tables
listed result old = record old { held = called (listing_failed result) old.held }

-- at most so many lookups were made; there are as many tables, with the same partial keys, and as sound
pub record Stays (finds : ℕ) (old new : Tables) : Type 0 where
  pub later : old.finds ≤ new.finds
  pub few : new.finds ≤ old.finds + finds
  pub count : new.count ≡ old.count
  pub partial : new.partial ≡ old.partial
  pub sound : new.sound ≡ old.sound

-- the tables are sound, and those of these places are there
pub record CanFind (tables : Tables) (ids : List TableId) : Type 0 where
  pub sound : tables.sound ≡ true
  pub there : All (λ id. id.0 < tables.count) ids
