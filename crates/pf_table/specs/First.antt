-- Tables that are asked in turn (DATABASE_README).
use Rattle.std.specs.Prelude.{ℕ, List, [], ◌∷◌}
use Rattle.pf_base.specs.declared.table_texts.TableId.{TableId}
use Rattle.pf_asks.specs.Questions.{look}
use Rattle.pf_asks.specs.Tries.{Try, ok, ◌>>=◌}
use Rattle.pf_asks.specs.declared.lookup.Found.{Found}
use Rattle.pf_asks.specs.declared.lookup.Found.TheVariants.{Value, Absent}
use Rattle.pf_asks.specs.declared.lookup.TableFault.{TableFault}

-- a value ends a search, and where there is none it goes on
abbrev pub or_else : Found → Try TableFault Found → Try TableFault Found
or_else (Value bytes) behind = ok (Value bytes)
or_else Absent behind = behind

-- tables are asked from the left, up to one that has a value or fails
unfoldable pub first_of : List TableId → List ℕ → Try TableFault Found
first_of [] key = ok Absent
first_of (id ∷ ids) key = do
  found ← look id.0 key
  or_else found (first_of ids key)
