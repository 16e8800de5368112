-- The header and the sizes of tables, of which the slots of one after the other are gone over.
use Rattle.std.proofs.Common.{◌≡◌, ◌+◌, ◌*◌, ◌<◌, ℕ, List, ◌∷◌, ◌++◌, length, map, drop, get_or, ap, ◌∙◌, sym, arith}
use Rattle.std.proofs.lemmas.List.{append_assoc, drop_more}
use Rattle.std.proofs.lemmas.List.Sums.{sum_by-cons}
use Rattle.pf_cdb.proofs.PlaceLaws.{length_filled}
use Rattle.pf_cdb.specs.Written.{bytes_of, filled, header_bytes, tables_size}
use Rattle.pf_cdb.specs.declared.layout.Slot.{Slot}

-- the tables for the slots that some vectors hold, from the one at a place on
abbrev pub tables_from : {V : Type 0} → (V → List Slot) → List V → ℕ → List (List Slot)
tables_from f vs i = map filled (map f (drop i vs))

tables_next : {V : Type 0} (f : V → List Slot) (vs : List V) (v : V) (i : ℕ) → i < length vs → v ≡ get_or vs i v
    → tables_from f vs i ≡ filled (f v) ∷ tables_from f vs (i + 1)
tables_next f vs v i low is =
    ap (λ l. map filled (map f l)) (drop_more vs i v low) ∙ ap (λ w. filled (f w) ∷ tables_from f vs (i + 1)) (sym is)

pub size_next : {V : Type 0} (f : V → List Slot) (vs : List V) (v : V) (i : ℕ) → i < length vs → v ≡ get_or vs i v
    → tables_size (tables_from f vs i) ≡ 8 * (2 * length (f v)) + tables_size (tables_from f vs (i + 1))
size_next f vs v i low is =
    omega (
      arith,
      ap tables_size (tables_next f vs v i low is),
      sum_by-cons (λ table. 8 * length table) (filled (f v)) (tables_from f vs (i + 1)),
      length_filled (f v),
    )

pub header_next : {V : Type 0} (f : V → List Slot) (vs : List V) (v : V) (i at slots : ℕ) → i < length vs → v ≡ get_or vs i v → slots ≡ 2 * length (f v)
    → header_bytes at (tables_from f vs i) ≡ (bytes_of at ++ bytes_of slots) ++ header_bytes (at + 8 * slots) (tables_from f vs (i + 1))
header_next f vs v i at slots low is count =
    let all : slots ≡ length (filled (f v)) = count ∙ sym (length_filled (f v)) in
    ap (header_bytes at) (tables_next f vs v i low is)
    ∙ ap (λ n. bytes_of at ++ (bytes_of n ++ header_bytes (at + 8 * n) (tables_from f vs (i + 1)))) (sym all)
    ∙ sym (append_assoc (bytes_of at) (bytes_of slots) (header_bytes (at + 8 * slots) (tables_from f vs (i + 1))))
