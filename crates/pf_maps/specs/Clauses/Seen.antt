-- Opened tables, as contracts see them. Words of contracts, by no standard.
use Rattle.std.specs.Prelude.{ℕ, true, List, [], Option, None, Some, Result, Ok, length, slice_get}
use Rattle.pf_base.specs.Outside.Counts.{counted_by}
use Rattle.pf_base.specs.Results.{◌>>=◌}
use Rattle.pf_base.specs.declared.pair.Pair.{Pair}
use Rattle.pf_asks.specs.Looking.{Meaning, Tables, Values}
use Rattle.pf_table.specs.Tables.{fail_meaning}
use Rattle.pf_maps.specs.Listing.{pairs_of}
use Rattle.pf_maps.specs.Meanings.{meaning_of}
use Rattle.pf_maps.specs.Opening.{Unopened}
use Rattle.pf_maps.specs.declared.node.Node.{Node}

-- the tables, each by its nodes, and how many lookups there were
pub record OpenTables : Type 0 where
  pub tables : List (List Node)
  pub finds : ℕ

-- what a table means; without a table it fails
abbrev pub meaning_in : Option (List Node) → Meaning
meaning_in None = fail_meaning
meaning_in (Some nodes) = meaning_of nodes

-- the pairs of a table; without a table there are none
abbrev pub listed : Option (List Node) → List Pair
listed None = []
listed (Some nodes) = pairs_of nodes

-- what tables mean
abbrev pub values_of : List (List Node) → Values
values_of tables id = meaning_in (slice_get tables id)

-- what contracts see of them: they are in memory, so that no lookup fails from outside
abbrev pub seen : OpenTables → Tables
seen open_tables = record {
  held = record { content = Some (values_of open_tables.tables); faults = 0 };
  finds = open_tables.finds;
  count = length open_tables.tables;
  partial = λ id. (values_of open_tables.tables id).partial_keys;
  sound = true;
}

-- a lookup was counted
abbrev pub with_find : OpenTables → OpenTables
with_find open_tables = record open_tables { finds = counted_by 1 open_tables.finds }

-- tables as they are opened
abbrev pub opened : Result (List (List Node)) Unopened → Result OpenTables Unopened
opened answer = do
  tables ← answer
  Ok (record { tables = tables; finds = 0 })
