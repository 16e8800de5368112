-- The places of the records that are held: words of the code's contracts.
use Rattle.std.specs.Prelude.{ℕ, List, length, map, filter}
use Rattle.std.specs.List.{range_with_len}
use Rattle.pf_cdb.specs.Held.{is_held}
use Rattle.pf_cdb.specs.Layout.{table_of}

-- those that the slots of a table name, in the order of the slots; a record may be named more than once
unfoldable pub held_in : List ℕ → ℕ → List ℕ
held_in file table = filter (is_held file) (map (λ slot. slot.at) (table_of file table))

-- all of them, in their order, each once
unfoldable pub held_places : List ℕ → List ℕ
held_places file = filter (is_held file) (range_with_len 0 (length file))
