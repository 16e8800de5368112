-- Tables in memory, as contracts see them: they know which of their calls fail, and how many calls and lookups there were. They are
-- postgate's own.
use Rattle.std.specs.Prelude.{◌≡◌, ℕ, Bool, true, false, List, Option, None, Some, length, slice_get}
use Rattle.pf_base.specs.Outside.Counts.{counted_by}
use Rattle.pf_base.specs.Clauses.Memory.{Calls, fails_next}
use Rattle.pf_base.specs.declared.pair.Pair.{Pair}
use Rattle.pf_asks.specs.Clauses.Causes.{counted_if}
use Rattle.pf_asks.specs.Looking.{Meaning, Tables, Values}
use Rattle.pf_table.specs.Tables.{fail_meaning, keyed_meaning}

-- tables, each of them pairs, the calls that may fail, and how many of them were lookups
pub record MemoryTables : Type 0 where
  pub tables : List (List Pair)
  pub calls : Calls
  pub finds : ℕ

-- what a table means, as an inline table that doesn't fold; without a table it fails
abbrev pub meaning_in : Option (List Pair) → Meaning
meaning_in None = fail_meaning
meaning_in (Some pairs) = keyed_meaning (record { folds = false; pairs = pairs })

-- what tables mean
abbrev pub values_of : List (List Pair) → Values
values_of tables id = meaning_in (slice_get tables id)

-- what contracts see of them; each has partial keys
abbrev pub seen : MemoryTables → Tables
seen memory = record {
  held = record { content = Some (values_of memory.tables); faults = memory.calls.faults };
  finds = memory.finds;
  count = length memory.tables;
  partial = λ id. true;
  sound = true;
}

-- a lookup was counted
abbrev pub with_find : MemoryTables → MemoryTables
with_find memory = record memory { finds = counted_by 1 memory.finds }

-- the next call was counted, and its fault where it is one of those that fail
pub record CountsCall (old new : MemoryTables) (fails : Bool) : Type 0 where
  pub fails_is : fails ≡ fails_next old.calls
  pub tables : new.tables ≡ old.tables
  pub finds : new.finds ≡ old.finds
  pub failing : new.calls.failing ≡ old.calls.failing
  pub made : new.calls.made ≡ counted_by 1 old.calls.made
  pub faults : new.calls.faults ≡ counted_if fails old.calls.faults
