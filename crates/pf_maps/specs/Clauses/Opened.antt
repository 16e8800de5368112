-- What a call leaves of the files and of the patterns that opens tables. Words of contracts, by no standard.
use Rattle.std.specs.Prelude.{◌≡◌, ◌⊎◌, ◌&&◌, ◌||◌, ℕ, Bool, true, false, List, Option, Some, Result, Ok, Err, codes, is_some}
use Rattle.std.specs.Str.{bytes_eq}
use Rattle.pf_base.specs.Outside.Known.{Tree, failed_tree}
use Rattle.pf_base.specs.declared.pair.Pair.{Pair}
use Rattle.pf_base.specs.declared.refused.Cause.{Cause}
use Rattle.pf_base.specs.declared.refused.Cause.TheVariants as cause
use Rattle.pf_base.specs.declared.refused.ConfFault.{ConfFault}
use Rattle.pf_base.specs.declared.refused.ConfFault.TheVariants as conf_fault
use Rattle.pf_base.specs.declared.refused.Refused.{Refused}
use Rattle.pf_asks.specs.Clauses.Causes.{counted_if}
use Rattle.pf_maps.specs.Opening.{Unopened}
use Rattle.pf_maps.specs.Opening.{Unopened as unopened}
use Rattle.pf_maps.specs.declared.opening.OpenFault.{OpenFault}
use Rattle.pf_maps.specs.declared.opening.OpenFault.TheVariants as open_fault

-- a refusal as the fault of a call
abbrev pub fault_of : ConfFault → OpenFault
fault_of (conf_fault.Refused refusal) = open_fault.Refused refusal
fault_of conf_fault.NoMemory = open_fault.NoMemory

-- an answer of a call without files
abbrev pub held_as : {A : Type 0} → Result A ConfFault → Result A OpenFault
held_as (Ok opened) = Ok opened
held_as (Err fault) = Err (fault_of fault)

-- an answer is what is said; lack of memory is free
abbrev pub IsFault : {A : Type 0} → Result A Unopened → OpenFault → Type 0
IsFault answer (open_fault.Refused refusal) = answer ≡ Err (unopened.refuses refusal)
IsFault answer (open_fault.Failed name) = answer ≡ Err (unopened.fails name)
IsFault answer open_fault.NoMemory = Unit {0}

abbrev pub Says : {A : Type 0} → Result A Unopened → Result A OpenFault → Type 0
Says answer (Ok opened) = answer ≡ Ok opened
Says answer (Err fault) = IsFault answer fault

-- the files and their count of faults are the same
abbrev pub Kept : Tree → Tree → Type 0
Kept before now = (now.content ≡ before.content) × (now.faults ≡ before.faults)

-- they are the same, but for one fault where a read failed
abbrev pub LeavesBy : Tree → Tree → OpenFault → Type 0
LeavesBy before now (open_fault.Refused refusal) = Kept before now
LeavesBy before now (open_fault.Failed name) = Kept (failed_tree before) now
LeavesBy before now open_fault.NoMemory = Kept before now

abbrev pub Leaves : {A : Type 0} → Tree → Tree → Result A OpenFault → Type 0
Leaves before now (Ok opened) = Kept before now
Leaves before now (Err fault) = LeavesBy before now fault

-- a read failed
abbrev pub is_failed : OpenFault → Bool
is_failed (open_fault.Refused refusal) = false
is_failed (open_fault.Failed name) = true
is_failed open_fault.NoMemory = false

abbrev pub read_failed : {A : Type 0} → Result A OpenFault → Bool
read_failed (Ok opened) = false
read_failed (Err fault) = is_failed fault

-- one file was read, if it is there: files that tell were opened as they say where that read failed just if the answer names it
pub record Opens {A : Type 0} (before now : Tree) (says : Bool → List Pair → Result A Unopened) (result : Result A OpenFault) : Type 0 where
  pub known : (files : List Pair) → before.content ≡ Some files → Says (says (read_failed result) files) result
  pub leaves : Leaves before now result

-- a refusal names the size of a pattern
abbrev pub is_refused_text : Cause → Bool
is_refused_text cause.C11 = true
is_refused_text other = false

abbrev pub is_of_size : Refused → Bool
is_of_size refusal = is_refused_text refusal.cause && bytes_eq refusal.name (codes "pattern size")

abbrev pub names_size : OpenFault → Bool
names_size (open_fault.Refused refusal) = is_of_size refusal
names_size (open_fault.Failed name) = false
names_size open_fault.NoMemory = false

-- an answer names what happened: the size of a pattern, or a file that was not read
abbrev pub names_event : {A : Type 0} → Result A OpenFault → Bool
names_event (Ok opened) = false
names_event (Err fault) = names_size fault || is_failed fault

-- the count of patterns that were refused for their size rose by one where the answer names that; where memory ran out it may have
abbrev pub CountedBy : ℕ → ℕ → OpenFault → Type 0
CountedBy old new (open_fault.Refused refusal) = new ≡ counted_if (is_of_size refusal) old
CountedBy old new (open_fault.Failed name) = new ≡ old
CountedBy old new open_fault.NoMemory = (new ≡ old) ⊎ (new ≡ counted_if true old)

abbrev pub Counted : {A : Type 0} → ℕ → ℕ → Result A OpenFault → Type 0
Counted old new (Ok opened) = new ≡ old
Counted old new (Err fault) = CountedBy old new fault

-- tables of any kind: files that tell were opened as they say where just this happened, if anything did: the pattern at a place was refused for
-- its size, or a file was not read. It happened just if the answer names it.
pub record OpensWith {A L : Type 0} (before now : Tree) (old new : ℕ) (says : Option L → List Pair → Result A Unopened) (result : Result A OpenFault) : Type 0 where
  pub event : Option L
  pub known : (files : List Pair) → before.content ≡ Some files → Says (says event files) result
  pub leaves : Leaves before now result
  pub counts : Counted old new result
  pub names : is_some event ≡ names_event result
