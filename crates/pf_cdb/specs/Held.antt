-- What a cdb file stands for (D. J. Bernstein, A structure for constant databases; cdb(5)). That it is a list, and which of several
-- records with one key counts, is postgate's own.
use Rattle.std.specs.Prelude.{ℕ, ◌+◌, ◌/◌, ◌%◌, ◌==◌, ◌&&◌, Bool, not, false, List, length, map, Option, slice_index_or, bytes_eq, filter, find, take_while}
use Rattle.std.specs.List.{range_with_len}
use Rattle.std.specs.Option.{option_map, option_map_or}
use Rattle.pf_base.specs.declared.pair.Pair.{Pair}
use Rattle.pf_cdb.specs.Hash.{hash_of}
use Rattle.pf_cdb.specs.Layout.{key_at, key_length, pair_at, table_of, value_length}
use Rattle.pf_cdb.specs.declared.layout.Slot.{Slot}
use Rattle.pf_cdb.specs.declared.span.Span.{Span}

-- a slot is empty where its place is 0
abbrev pub empty : Slot
empty = record { hash = 0; at = 0 }

abbrev pub is_used : Slot → Bool
is_used slot = not (slot.at == 0)

-- the slots of a table as a hash tries them: from its first slot on, cyclically, once round
unfoldable pub tried : List Slot → ℕ → List Slot
tried slots hash = map (λ step. slice_index_or slots ((hash / 256 + step) % length slots) empty) (range_with_len 0 (length slots))

-- those that it reaches: up to the first empty one
abbrev pub reached : List Slot → ℕ → List Slot
reached slots hash = take_while is_used (tried slots hash)

-- a slot has a key where it holds the key's hash and its record the key
abbrev pub has_key : List ℕ → List ℕ → Slot → Bool
has_key file key slot = (slot.hash == hash_of key) && bytes_eq (key_at file slot.at) key

-- the place of the record that is held for a key: that of the first slot that its hash reaches and that has the key
unfoldable pub held : List ℕ → List ℕ → Option ℕ
held file key = option_map (λ slot. slot.at) (find (has_key file key) (reached (table_of file (hash_of key % 256)) (hash_of key)))

-- where the value of a record is
abbrev pub value_span : List ℕ → ℕ → Span
value_span file at = record { start = at + 8 + key_length file at; end = at + 8 + key_length file at + value_length file at }

-- whether the record at a place is held for its own key
unfoldable pub is_held : List ℕ → ℕ → Bool
is_held file at = option_map_or (λ place. place == at) (held file (key_at file at)) false

-- what a file stands for: the pairs that are held, in the order of their records, each once
unfoldable pub elements_of : List ℕ → List Pair
elements_of file = map (pair_at file) (filter (is_held file) (range_with_len 0 (length file)))
