use Rattle.std.proofs.Common.{◌≡◌}
use Rattle.std.specs.List.{flat_map, range_with_len}
use Rattle.pf_cdb.specs.Clauses.Listed.{held_in}
use Rattle.pf_cdb.proofs.listing.held_places.Given as goal

abbrev pub invariant-loop-table : goal.invariant-loop-table
invariant-loop-table l = l.places.items ≡ flat_map (held_in l.file) (range_with_len 0 l.table)
