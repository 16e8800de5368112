-- Where the parts of a file that is written are, and what is read there.
use Rattle.std.proofs.Common.{◌≡◌, ◌+◌, ◌*◌, ◌<◌, ◌≤◌, ◌^◌, ℕ, zero, suc, List, [], ◌∷◌, ◌++◌, length, take, get_or, refl, ap, ◌∙◌, sym, subst, arith}
use Rattle.std.specs.List.{All, flat_map, fold, sum_by}
use Rattle.std.proofs.lemmas.List.{append-nil, append_assoc, get_or-map, length-map, length-take-le}
use Rattle.std.proofs.lemmas.List.FromFn.{fill_by_all}
use Rattle.std.proofs.lemmas.List.Sums.{sum_by-cons, sum_by_more_le}
use Rattle.std.proofs.lemmas.Nat.{mod_below}
use Rattle.pf_base.specs.declared.pair.Pair.{Pair}
use Rattle.pf_cdb.proofs.BucketLaws.{get_by_table, length_by_table}
use Rattle.pf_cdb.proofs.FileLaws.{length_header, length_records, length_slot, length_table_bytes, length_written}
use Rattle.pf_cdb.proofs.StandsLaws.{Stands, stands_left, stands_nth, stands_right, word_there}
use Rattle.pf_cdb.specs.Hash.{hash_of, hash_step}
use Rattle.pf_cdb.specs.Held.{empty}
use Rattle.pf_cdb.specs.Layout.{slot_of, slots_in, table_at, table_of, word}
use Rattle.pf_cdb.specs.Written.{by_table, bytes_of, filled, header_bytes, of_table, placed, record_bytes, record_size, records_end, slot_bytes, table_bytes, tables_of, tables_size, written}
use Rattle.pf_cdb.specs.declared.layout.Slot.{Slot}

-- the file is not too large
abbrev pub Fits : List Pair → Type 0
Fits entries = length (written entries) ≤ 67108864

-- a hash and a place fit into four bytes
abbrev pub IsLow : Slot → Type 0
IsLow slot = (slot.hash < 2 ^ 32) × (slot.at < 2 ^ 32)

fold_low : (hash : ℕ) (key : List ℕ) → hash < 2 ^ 32 → fold hash_step hash key < 2 ^ 32
fold_low hash [] low = low
fold_low hash (byte ∷ key) low = fold_low (hash_step hash byte) key (mod_below _ (2 ^ 32) (omega arith))

pub hash_low : (key : List ℕ) → hash_of key < 2 ^ 32
unfolding hash_of
hash_low key = fold_low 5381 key (omega arith)

-- the tables
pub length_tables : (entries : List Pair) → length (tables_of entries) ≡ 256
length_tables entries = length-map (by_table (placed 2048 entries)) filled ∙ length_by_table (placed 2048 entries)

pub get_tables : (entries : List Pair) (table : ℕ) → table < 256 → get_or (tables_of entries) table [] ≡ filled (of_table (placed 2048 entries) table)
get_tables entries table low =
    get_or-map filled (by_table (placed 2048 entries)) table [] [] (omega (arith, length_by_table (placed 2048 entries)))
    ∙ ap filled (get_by_table (placed 2048 entries) table [] low)

-- the header, the records and the tables
whole_stands : (entries : List Pair)
    → Stands (written entries) 0 (header_bytes (records_end entries) (tables_of entries) ++ (flat_map record_bytes entries ++ flat_map table_bytes (tables_of entries)))
unfolding written
whole_stands entries = record { rest = []; is = sym (append-nil _) }

behind_header : (entries : List Pair) → Stands (written entries) 2048 (flat_map record_bytes entries ++ flat_map table_bytes (tables_of entries))
behind_header entries =
    let size : length (header_bytes (records_end entries) (tables_of entries)) ≡ 2048 =
    omega (arith, length_header (records_end entries) (tables_of entries), length_tables entries) in
    stands_right (written entries) 0 2048 (header_bytes (records_end entries) (tables_of entries))
    (flat_map record_bytes entries ++ flat_map table_bytes (tables_of entries)) size (whole_stands entries)

pub records_stand : (entries : List Pair) → Stands (written entries) 2048 (flat_map record_bytes entries)
records_stand entries = stands_left (written entries) 2048 (flat_map record_bytes entries) (flat_map table_bytes (tables_of entries)) (behind_header entries)

tables_stand : (entries : List Pair) → Stands (written entries) (records_end entries) (flat_map table_bytes (tables_of entries))
tables_stand entries =
    stands_right (written entries) 2048 (sum_by record_size entries) (flat_map record_bytes entries) (flat_map table_bytes (tables_of entries))
    (length_records entries) (behind_header entries)

-- the place of a table
abbrev pub place_of : List Pair → ℕ → ℕ
place_of entries table = records_end entries + tables_size (take table (tables_of entries))

pub place_fits : (entries : List Pair) (table : ℕ) → table < 256 → place_of entries table + 8 * length (get_or (tables_of entries) table []) ≤ length (written entries)
place_fits entries table low =
    let within : table < length (tables_of entries) = omega (arith, length_tables entries) in
    let sum = sum_by_more_le (λ t. 8 * length t) (tables_of entries) table [] within in
    omega (arith, sum, length_written entries)

-- of the header, the pair of a table
header_nth : (file : List ℕ) (at start : ℕ) (tables : List (List Slot)) (table : ℕ) → table < length tables → Stands file at (header_bytes start tables)
    → Stands file (at + 8 * table) (bytes_of (start + tables_size (take table tables)) ++ bytes_of (length (get_or tables table [])))
header_nth file at start [] table low stands = absurd (omega arith)
header_nth file at start (first ∷ tables) zero low stands =
    let a = bytes_of start in
    let b = bytes_of (length first) in
    let rest = header_bytes (start + 8 * length first) tables in
    let pair = stands_left file at (a ++ b) rest (subst (Stands file at) (sym (append_assoc a b rest)) stands) in
    let place : at ≡ at + 8 * 0 = omega arith in
    let begin : start ≡ start + tables_size (take 0 (first ∷ tables)) = omega arith in
    subst (λ n. Stands file (at + 8 * 0) (bytes_of n ++ b)) begin (subst (λ n. Stands file n (a ++ b)) place pair)
header_nth file at start (first ∷ tables) (suc table) low stands =
    let a = bytes_of start in
    let b = bytes_of (length first) in
    let rest = header_bytes (start + 8 * length first) tables in
    let next = stands_right file at 8 (a ++ b) rest refl (subst (Stands file at) (sym (append_assoc a b rest)) stands) in
    let inner = header_nth file (at + 8) (start + 8 * length first) tables table (omega arith) next in
    let place : at + 8 + 8 * table ≡ at + 8 * suc table = omega arith in
    let begin : start + 8 * length first + tables_size (take table tables) ≡ start + tables_size (take (suc table) (first ∷ tables)) =
    omega (arith, sum_by-cons (λ t. 8 * length t) first (take table tables)) in
    let b = bytes_of (length (get_or tables table [])) in
    subst (λ n. Stands file (at + 8 * suc table) (bytes_of n ++ b)) begin
    (subst (λ n. Stands file n (bytes_of (start + 8 * length first + tables_size (take table tables)) ++ b)) place inner)

pair_stands : (entries : List Pair) (table : ℕ) → table < 256
    → Stands (written entries) (8 * table) (bytes_of (place_of entries table) ++ bytes_of (length (get_or (tables_of entries) table [])))
pair_stands entries table low =
    let header = header_bytes (records_end entries) (tables_of entries) in
    let stands = stands_left (written entries) 0 header (flat_map record_bytes entries ++ flat_map table_bytes (tables_of entries)) (whole_stands entries) in
    let pair = header_nth (written entries) 0 (records_end entries) (tables_of entries) table (omega (arith, length_tables entries)) stands in
    let place : 0 + 8 * table ≡ 8 * table = omega arith in
    subst (λ n. Stands (written entries) n (bytes_of (place_of entries table) ++ bytes_of (length (get_or (tables_of entries) table [])))) place pair

pub table_at_is : (entries : List Pair) (table : ℕ) → Fits entries → table < 256 → table_at (written entries) table ≡ place_of entries table
table_at_is entries table fits low =
    word_there (written entries) (8 * table) (place_of entries table) (omega (arith, fits, place_fits entries table low))
    (stands_left (written entries) (8 * table) (bytes_of (place_of entries table)) (bytes_of (length (get_or (tables_of entries) table [])))
    (pair_stands entries table low))

pub slots_in_is : (entries : List Pair) (table : ℕ) → Fits entries → table < 256 → slots_in (written entries) table ≡ length (get_or (tables_of entries) table [])
slots_in_is entries table fits low =
    word_there (written entries) (8 * table + 4) (length (get_or (tables_of entries) table [])) (omega (arith, fits, place_fits entries table low))
    (stands_right (written entries) (8 * table) 4 (bytes_of (place_of entries table)) (bytes_of (length (get_or (tables_of entries) table []))) refl
    (pair_stands entries table low))

-- of a table, a slot
eights : (slots : List Slot) → sum_by (λ slot. 8) slots ≡ 8 * length slots
eights [] = refl
eights (slot ∷ slots) = omega (arith, sum_by-cons (λ s. 8) slot slots, eights slots)

slot_stands : (entries : List Pair) (table i : ℕ) → table < 256 → i < length (get_or (tables_of entries) table [])
    → Stands (written entries) (place_of entries table + 8 * i) (slot_bytes (get_or (get_or (tables_of entries) table []) i empty))
slot_stands entries table i low within =
    let slots = get_or (tables_of entries) table [] in
    let stands = stands_nth table_bytes (λ t. 8 * length t) length_table_bytes (written entries) (records_end entries) (tables_of entries) table []
    (omega (arith, length_tables entries)) (tables_stand entries) in
    let size : sum_by (λ slot. 8) (take i slots) ≡ 8 * i = omega (arith, eights (take i slots), length-take-le i slots (omega arith)) in
    subst (λ n. Stands (written entries) (place_of entries table + n) (slot_bytes (get_or slots i empty))) size
    (stands_nth slot_bytes (λ slot. 8) length_slot (written entries) (place_of entries table) slots i empty within stands)

slot_again : (slot : Slot) → record { hash = slot.hash; at = slot.at } ≡ slot
slot_again slot = refl

slot_read : (file : List ℕ) (at : ℕ) (slot : Slot) → IsLow slot → Stands file at (slot_bytes slot) → record { hash = word file at; at = word file (at + 4) } ≡ slot
slot_read file at slot low stands =
    let hash : word file at ≡ slot.hash = word_there file at slot.hash low.0 (stands_left file at (bytes_of slot.hash) (bytes_of slot.at) stands) in
    let place : word file (at + 4) ≡ slot.at =
    word_there file (at + 4) slot.at low.1 (stands_right file at 4 (bytes_of slot.hash) (bytes_of slot.at) refl stands) in
    ap (λ n. record { hash = n; at = word file (at + 4) }) hash ∙ ap (λ n. record { hash = slot.hash; at = n }) place ∙ slot_again slot

pub slot_is : (entries : List Pair) (table i : ℕ) → Fits entries → table < 256 → i < length (get_or (tables_of entries) table [])
    → All IsLow (get_or (tables_of entries) table []) → slot_of (written entries) table i ≡ get_or (get_or (tables_of entries) table []) i empty
slot_is entries table i fits low within all =
    let slots = get_or (tables_of entries) table [] in
    ap (λ n. record { hash = word (written entries) (n + 8 * i); at = word (written entries) (n + 8 * i + 4) }) (table_at_is entries table fits low)
    ∙ slot_read (written entries) (place_of entries table + 8 * i) (get_or slots i empty) (all i empty within) (slot_stands entries table i low within)

-- the slots that are read of a table are those that were written
pub table_of_is : (entries : List Pair) (table : ℕ) → Fits entries → table < 256 → All IsLow (get_or (tables_of entries) table [])
    → table_of (written entries) table ≡ get_or (tables_of entries) table []
unfolding table_of
table_of_is entries table fits low all =
    let slots = get_or (tables_of entries) table [] in
    let size = slots_in_is entries table fits low in
    sym (fill_by_all (slot_of (written entries) table) slots (slots_in (written entries) table) empty (sym size)
    (λ k less. sym (slot_is entries table k fits low (omega arith) all)))
