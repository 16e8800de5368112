-- The size of the file for some pairs, by their sizes alone.
use Rattle.std.proofs.Common.{◌≡◌, ◌≢◌, ◌+◌, ◌*◌, ◌%◌, ◌<◌, ◌≤◌, ℕ, zero, suc, Bool, true, false, List, [], ◌∷◌, cond, get_or, length, map, take, refl, ap, ◌∙◌, sym, arith, ⊎_elim}
use Rattle.std.specs.Prelude.{◌==◌}
use Rattle.std.proofs.lemmas.Bool.{cases_eq}
use Rattle.std.specs.List.{range_with_len, sum_by}
use Rattle.std.proofs.lemmas.Bool.{eq-eqb, ne_eqb}
use Rattle.std.proofs.lemmas.List.Sums.{sum_by-cons, sum_by_more, sum_by_more_le}
use Rattle.std.proofs.lemmas.Nat.{mod_below}
use Rattle.pf_cdb.proofs.PlaceLaws.{length_filled}
use Rattle.pf_base.specs.declared.pair.Pair.{Pair}
use Rattle.pf_cdb.proofs.FileLaws.{length_written}
use Rattle.pf_cdb.specs.Written.{by_table, filled, of_table, placed, record_size, tables_size, written}
use Rattle.pf_cdb.specs.declared.layout.Slot.{Slot}

-- 16 where it is so
abbrev weight : Bool → ℕ
weight b = cond b 16 0

none_below : (n low len : ℕ) → n < low → sum_by (λ table. weight (n == table)) (range_with_len low len) ≡ 0
none_below n low zero less = refl
none_below n low (suc len) less =
    omega (
      arith,
      sum_by-cons (λ table. weight (n == table)) low (range_with_len (low + 1) len),
      ap weight (ne_eqb n low (λ e. absurd (omega arith))),
      none_below n (low + 1) len (omega arith),
    )

one_of : (n low len : ℕ) → low ≤ n → n < low + len → sum_by (λ table. weight (n == table)) (range_with_len low len) ≡ 16
one_of n low zero le less = absurd (omega arith)
one_of n low (suc len) le less =
    let split = sum_by-cons (λ table. weight (n == table)) low (range_with_len (low + 1) len) in
    ⊎_elim {A = n ≡ low} {B = n ≢ low}
    (λ e. omega (arith, split, ap weight (eq-eqb n low e), none_below n (low + 1) len (omega (arith, e))))
    (λ apart. omega (arith, split, ap weight (ne_eqb n low apart), one_of n (low + 1) len (omega (arith, le, apart)) (omega arith)))
    (cases_eq n low)

-- the slots of some tables
abbrev slots_of : List Slot → List ℕ → ℕ
slots_of slots tables = sum_by (λ table. 8 * length (filled (of_table slots table))) tables

of_cond : (b : Bool) (slot : Slot) (slots : List Slot) → 16 * length (cond b (slot ∷ slots) slots) ≡ 16 * length slots + weight b
of_cond true slot slots = omega arith
of_cond false slot slots = omega arith

one_slot : (slot : Slot) (slots : List Slot) (tables : List ℕ)
    → slots_of (slot ∷ slots) tables ≡ slots_of slots tables + sum_by (λ table. weight (slot.hash % 256 == table)) tables
one_slot slot slots [] = refl
one_slot slot slots (table ∷ tables) =
    omega (
      arith,
      sum_by-cons (λ t. 8 * length (filled (of_table (slot ∷ slots) t))) table tables,
      sum_by-cons (λ t. 8 * length (filled (of_table slots t))) table tables,
      sum_by-cons (λ t. weight (slot.hash % 256 == t)) table tables,
      length_filled (of_table (slot ∷ slots) table),
      length_filled (of_table slots table),
      of_cond (slot.hash % 256 == table) slot (of_table slots table),
      one_slot slot slots tables,
    )

no_slot : (tables : List ℕ) → slots_of [] tables ≡ 0
no_slot [] = refl
no_slot (table ∷ tables) =
    omega (arith, sum_by-cons (λ t. 8 * length (filled (of_table [] t))) table tables, length_filled [], no_slot tables)

all_slots : (tables : List ℕ) → ((n : ℕ) → n < 256 → sum_by (λ table. weight (n == table)) tables ≡ 16) → (slots : List Slot) → slots_of slots tables ≡ 16 * length slots
all_slots tables each [] = no_slot tables
all_slots tables each (slot ∷ slots) =
    omega (arith, one_slot slot slots tables, all_slots tables each slots, each (slot.hash % 256) (mod_below slot.hash 256 (omega arith)))

sum_map : {X Y : Type 0} (f : Y → ℕ) (g : X → Y) (xs : List X) → sum_by f (map g xs) ≡ sum_by (λ x. f (g x)) xs
sum_map f g [] = refl
sum_map f g (x ∷ xs) = omega (arith, sum_by-cons f (g x) (map g xs), sum_by-cons (λ y. f (g y)) x xs, sum_map f g xs)

pub size_of_tables : (slots : List Slot) → tables_size (map filled (by_table slots)) ≡ 16 * length slots
unfolding by_table
size_of_tables slots =
    sum_map (λ t. 8 * length t) filled (map (of_table slots) (range_with_len 0 256))
    ∙ sum_map (λ t. 8 * length (filled t)) (of_table slots) (range_with_len 0 256)
    ∙ all_slots (range_with_len 0 256) (λ n less. one_of n 0 256 (omega arith) less) slots

abbrev pub entry_size : Pair → ℕ
entry_size pair = record_size pair + 16

pub length_placed : (at : ℕ) (pairs : List Pair) → length (placed at pairs) ≡ length pairs
length_placed at [] = refl
length_placed at (pair ∷ pairs) = ap suc (length_placed (at + record_size pair) pairs)

pub sixteen : (pairs : List Pair) → sum_by entry_size pairs ≡ sum_by record_size pairs + 16 * length pairs
sixteen [] = refl
sixteen (pair ∷ pairs) = omega (arith, sum_by-cons entry_size pair pairs, sum_by-cons record_size pair pairs, sixteen pairs)

pub size_written : (entries : List Pair) → length (written entries) ≡ 2048 + sum_by entry_size entries
size_written entries =
    omega (arith, length_written entries, size_of_tables (placed 2048 entries), length_placed 2048 entries, sixteen entries)

pub size_more : (entries : List Pair) (i : ℕ) (pair : Pair) → i < length entries → pair ≡ get_or entries i pair
    → sum_by entry_size (take (i + 1) entries) ≡ sum_by entry_size (take i entries) + entry_size pair
size_more entries i pair low is = sum_by_more entry_size entries i pair low ∙ ap (λ p. sum_by entry_size (take i entries) + entry_size p) (sym is)

pub too_large_at : (entries : List Pair) (i : ℕ) (pair : Pair) (size : ℕ) → i < length entries → pair ≡ get_or entries i pair
    → size ≡ 2048 + sum_by entry_size (take i entries) → 67108864 < size + entry_size pair → 67108864 < length (written entries)
too_large_at entries i pair size low is at over =
    omega (arith, at, over, size_written entries, sum_by_more_le entry_size entries i pair low, ap entry_size is)
