use Rattle.std.proofs.Common.{◌≡◌, ◌++◌, map, take}
use Rattle.std.specs.List.{filter}
use Rattle.pf_cdb.specs.Held.{is_held}
use Rattle.pf_cdb.specs.Layout.{table_of}
use Rattle.pf_cdb.proofs.listing.add_places.Given as goal

abbrev pub invariant-loop-i : goal.invariant-loop-i
invariant-loop-i l = l.places.items ≡ l.fn.places.items ++ filter (is_held l.file) (take l.i (map (λ slot. slot.at) (table_of l.file l.table)))
