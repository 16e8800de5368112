-- A file to which pairs are added: words of the code's contracts.
use Rattle.std.specs.Prelude.{ℕ, ◌+◌, ◌*◌, ◌≡◌, ◌≤◌, List, ◌++◌, length, map, replicate, flat_map}
use Rattle.pf_base.specs.declared.pair.Pair.{Pair}
use Rattle.pf_cdb.specs.Layout.{pair_at}
use Rattle.pf_cdb.specs.Written.{placed, record_bytes}
use Rattle.pf_cdb.specs.declared.layout.Slot.{Slot}

-- the pairs whose records some slots name
abbrev pub pairs_at : List ℕ → List Slot → List Pair
pairs_at file slots = map (pair_at file) (map (λ slot. slot.at) slots)

-- room for a header, and the records of some pairs
unfoldable pub prefix_of : List Pair → List ℕ
prefix_of pairs = replicate 2048 0 ++ flat_map record_bytes pairs

-- the file has room for a header and records, these are their slots, and the tables for them have room after the records
pub record IsPrefix (file : List ℕ) (slots : List Slot) : Type 0 where
  pub bytes : file ≡ prefix_of (pairs_at file slots)
  pub all : slots ≡ placed 2048 (pairs_at file slots)
  pub fits : length file + 16 * length slots ≤ 67108864
