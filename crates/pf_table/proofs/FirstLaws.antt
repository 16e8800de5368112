-- How many lookups a search makes, for the callers that bound their own.
use Rattle.std.proofs.Common.{◌+◌, ℕ, List, [], ◌∷◌, Result, Ok, Err, length, arith}
use Rattle.pf_base.specs.declared.table_texts.TableId.{TableId}
use Rattle.pf_asks.proofs.CountLaws.{at_most_done, at_most_look, at_most_more, at_most_next}
use Rattle.pf_asks.specs.Clauses.Led.{AtMost}
use Rattle.pf_asks.specs.Tries.{on_ok}
use Rattle.pf_asks.specs.declared.lookup.Found.{Found}
use Rattle.pf_asks.specs.declared.lookup.Found.TheVariants.{Value, Absent}
use Rattle.pf_asks.specs.declared.lookup.TableFault.{TableFault}
use Rattle.pf_table.specs.First.{first_of, or_else}

-- at most one lookup a table
pub first_of_looks : (ids : List TableId) (key : List ℕ) → AtMost (length ids) (first_of ids key)
unfolding first_of
first_of_looks [] key = at_most_done (Ok Absent)
first_of_looks (id ∷ ids) key = at_most_more {m = 1 + length ids} (omega arith) (at_most_next _ (at_most_look id.0 key) (behind (first_of_looks ids key)))
  where
    behind : AtMost (length ids) (first_of ids key) → (answer : Result Found TableFault)
        → AtMost (length ids) (on_ok (λ found. or_else found (first_of ids key)) answer)
    behind rest (Ok (Value bytes)) = at_most_more {m = 0} (omega arith) (at_most_done (Ok (Value bytes)))
    behind rest (Ok Absent) = rest
    behind rest (Err fault) = at_most_more {m = 0} (omega arith) (at_most_done (Err fault))
