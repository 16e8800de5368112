use Rattle.std.proofs.Common.{◌≡◌, ◌≤◌, ◌+◌, ℕ, drop, List}
use Rattle.pf_base.specs.declared.table_texts.TableId.{TableId}
use Rattle.pf_asks.specs.Clauses.Led.{TablesLed}
use Rattle.pf_asks.specs.Looking.{Tables}
use Rattle.pf_table.specs.First.{first_of}
use Rattle.pf_table.proofs.first.first_in.Given as goal

-- the tables before this place were looked up, and none failed
pub record SoFar (old new : Tables) (ids : List TableId) (key : List ℕ) (i : ℕ) : Type 0 where
  pub led : TablesLed old new (first_of ids key) (first_of (drop i ids) key)
  pub few : new.finds ≤ old.finds + i
  pub kept : new.held.faults ≡ old.held.faults

abbrev pub invariant-loop-id : goal.invariant-loop-id
invariant-loop-id g l = SoFar (g.T.Lookup.tables l.initial.tables) (g.T.Lookup.tables l.tables) l.ids l.key l.id-index
