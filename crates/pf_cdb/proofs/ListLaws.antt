-- The records that are held, as they are gathered table by table.
use Rattle.std.proofs.Common.{◌≡◌, ◌+◌, ◌%◌, ◌<◌, ◌≤◌, ℕ, true, false, cond, List, [], ◌∷◌, ◌++◌, Option, Some, None, length, map, take, get_or, refl, ap, ◌∙◌, sym, subst, arith, eqb}
use Rattle.std.specs.Prelude.{◌==◌}
use Rattle.std.specs.List.{All, Contains, dedup, filter, flat_map, range_with_len}
use Rattle.std.specs.List.Sorted.{IsPermutation, IsSorted}
use Rattle.std.specs.Option.{option_map_or}
use Rattle.std.specs.Ordering.{nat_cmp}
use Rattle.std.proofs.lemmas.Bool.{eqb-true, eq-eqb, false_from_ne_true, false≢true}
use Rattle.std.proofs.lemmas.List.{append-nil, get_or-map, length-map, map-id, take_all}
use Rattle.std.proofs.lemmas.List.Concat.{flat_map-append}
use Rattle.std.proofs.lemmas.List.Elements.{All-get_or, All-weaker, filter_more, filter_passes}
use Rattle.std.proofs.lemmas.List.Filters.{All-dedup}
use Rattle.std.proofs.lemmas.List.FromFn.{map-range_with_len_more}
use Rattle.std.proofs.lemmas.List.Kept.{AllPairs-from_increasing, Contains-dedup_nat}
use Rattle.std.proofs.lemmas.List.Sorted.{All-permutation, Contains-permutation}
use Rattle.std.proofs.lemmas.Map.Keys.{IsStrictlyIncreasing-dedup}
use Rattle.std.proofs.lemmas.Nat.{mod_below}
use Rattle.pf_cdb.proofs.HeldLaws.{LiesIn, held_lies, is_there}
use Rattle.pf_cdb.proofs.RangeLaws.{all_flat_map, contains_filter, contains_flat_map, contains_range, filter_range, rising_from}
use Rattle.pf_cdb.proofs.SearchLaws.{get_table, length_table}
use Rattle.pf_cdb.specs.Hash.{hash_of}
use Rattle.pf_cdb.specs.Held.{elements_of, empty, held, is_held}
use Rattle.pf_cdb.specs.Layout.{key_at, pair_at, slot_of, slots_in, table_of}
use Rattle.pf_cdb.specs.Clauses.Listed.{held_in, held_places}
use Rattle.pf_cdb.specs.Sound.{IsSound}

pub held_says : (file : List ℕ) (at : ℕ) (found : Option ℕ) → held file (key_at file at) ≡ found → is_held file at ≡ option_map_or (λ place. place == at) found false
unfolding is_held
held_says file at found e = ap (λ o. option_map_or (λ place. place == at) o false) e

place_is : (at : ℕ) (found : Option ℕ) → option_map_or (λ place. place == at) found false ≡ true → found ≡ Some at
place_is at None e = absurd (false≢true e)
place_is at (Some place) e = ap Some (eqb-true place at e)

pub is_held_means : (file : List ℕ) (at : ℕ) → is_held file at ≡ true → held file (key_at file at) ≡ Some at
unfolding is_held
is_held_means file at e = place_is at (held file (key_at file at)) e

pub is_held_from : (file : List ℕ) (at : ℕ) → held file (key_at file at) ≡ Some at → is_held file at ≡ true
is_held_from file at e = held_says file at (Some at) e ∙ eq-eqb at at refl

pub not_held : (file : List ℕ) (at : ℕ) → IsSound file → at < 2048 → is_held file at ≡ false
not_held file at sound low =
    false_from_ne_true (is_held file at) (λ e.
    let lies = held_lies file (key_at file at) at sound (is_held_means file at e) in absurd (omega (arith, lies.prefix)))

-- one slot of a table more
pub names_more : (file : List ℕ) (table i : ℕ) → i < slots_in file table
    → filter (is_held file) (take (i + 1) (map (λ slot. slot.at) (table_of file table)))
    ≡ filter (is_held file) (take i (map (λ slot. slot.at) (table_of file table)))
    ++ cond (is_held file (slot_of file table i).at) ((slot_of file table i).at ∷ []) []
names_more file table i h =
    let places = map (λ slot. slot.at) (table_of file table) in
    let low : i < length (table_of file table) = omega (arith, length_table file table) in
    let within : i < length places = omega (arith, length-map (table_of file table) (λ slot. slot.at)) in
    let there : get_or places i 0 ≡ (slot_of file table i).at =
    get_or-map (λ slot. slot.at) (table_of file table) i empty 0 low ∙ ap (λ slot. slot.at) (get_table file table i empty h) in
    filter_more (is_held file) places i 0 within
    ∙ ap (λ at. filter (is_held file) (take i places) ++ cond (is_held file at) (at ∷ []) []) there

-- all slots
pub names_all : (file : List ℕ) (table i : ℕ) → slots_in file table ≤ i
    → filter (is_held file) (take i (map (λ slot. slot.at) (table_of file table))) ≡ held_in file table
unfolding held_in
names_all file table i h =
    let long : length (map (λ slot. slot.at) (table_of file table)) ≤ i =
    omega (arith, length-map (table_of file table) (λ slot. slot.at), length_table file table) in
    ap (filter (is_held file)) (take_all i (map (λ slot. slot.at) (table_of file table)) long)

-- one table more
pub tables_more : {X : Type 0} (f : ℕ → List X) (n : ℕ) → flat_map f (range_with_len 0 (n + 1)) ≡ flat_map f (range_with_len 0 n) ++ f n
tables_more f n =
    let range : range_with_len 0 (n + 1) ≡ range_with_len 0 n ++ n ∷ [] =
    sym (map-id (range_with_len 0 (n + 1))) ∙ map-range_with_len_more (λ k. k) 0 n n (omega arith) ∙ ap (λ l. l ++ n ∷ []) (map-id (range_with_len 0 n)) in
    ap (flat_map f) range ∙ flat_map-append f (range_with_len 0 n) (n ∷ []) ∙ ap (λ l. flat_map f (range_with_len 0 n) ++ l) (append-nil (f n))

-- a record that is held is named by a slot of its table
held_named : (file : List ℕ) (at : ℕ) → is_held file at ≡ true → Contains (flat_map (held_in file) (range_with_len 0 256)) at
unfolding held_in
held_named file at e =
    let there = is_there file (key_at file at) at (is_held_means file at e) in
    let table = hash_of (key_at file at) % 256 in
    let low : table < 256 = mod_below (hash_of (key_at file at)) 256 (omega arith) in
    let within : there.i < length (table_of file table) = omega (arith, there.within, length_table file table) in
    let named : Contains (map (λ slot. slot.at) (table_of file table)) at = (
      there.i,
      omega (arith, length-map (table_of file table) (λ slot. slot.at)),
      get_or-map (λ slot. slot.at) (table_of file table) there.i empty at within
          ∙ ap (λ slot. slot.at) (get_table file table there.i empty there.within) ∙ there.names,
    ) in
    contains_flat_map (held_in file) (range_with_len 0 256) table at (contains_range 0 256 table (omega arith) (omega arith))
    (contains_filter (is_held file) (map (λ slot. slot.at) (table_of file table)) at named e)

all_held : (file : List ℕ) → All (λ at. is_held file at ≡ true) (flat_map (held_in file) (range_with_len 0 256))
unfolding held_in
all_held file =
    all_flat_map (λ at. is_held file at ≡ true) (held_in file) (range_with_len 0 256)
    (λ table. filter_passes (is_held file) (map (λ slot. slot.at) (table_of file table)))

pub held_within : (file : List ℕ) (at : ℕ) → IsSound file → is_held file at ≡ true → (0 ≤ at) × (at < length file)
held_within file at sound e =
    let lies = held_lies file (key_at file at) at sound (is_held_means file at e) in (omega arith, omega (arith, lies.whole))

-- gathered, sorted and each once, they are the records that are held
pub held_listed : (file gathered sorted : List ℕ) → IsSound file → gathered ≡ flat_map (held_in file) (range_with_len 0 256)
    → IsPermutation gathered sorted → IsSorted nat_cmp sorted → dedup eqb sorted ≡ held_places file
unfolding held_places
held_listed file gathered sorted sound is permutation up =
    let held = subst (All (λ at. is_held file at ≡ true)) (sym is) (all_held file) in
    let pass : All (λ at. is_held file at ≡ true) (dedup eqb sorted) =
    All-dedup eqb (λ at. is_held file at ≡ true) sorted (All-permutation (λ at. is_held file at ≡ true) gathered sorted permutation held) in
    let within : All (λ at. (0 ≤ at) × (at < length file)) (dedup eqb sorted) =
    All-weaker (λ at. is_held file at ≡ true) (λ at. (0 ≤ at) × (at < length file)) (λ at e. held_within file at sound e) (dedup eqb sorted) pass in
    sym (filter_range (is_held file) 0 (length file) (length file) (dedup eqb sorted) (omega arith)
    (rising_from 0 (length file) (dedup eqb sorted) (AllPairs-from_increasing (dedup eqb sorted) (IsStrictlyIncreasing-dedup sorted up)) within)
    (record {
      pass = pass;
      whole = λ at low high e. Contains-dedup_nat sorted at
          (Contains-permutation gathered sorted at permutation (subst (λ l. Contains l at) (sym is) (held_named file at e)));
    }))

-- each of the listed records lies in the file
pub listed_lies : (file places : List ℕ) (i : ℕ) → IsSound file → places ≡ held_places file → i < length places → LiesIn file (get_or places i 0)
unfolding held_places
listed_lies file places i sound is low =
    let at = get_or places i 0 in
    let pass : is_held file at ≡ true =
    All-get_or (λ k. is_held file k ≡ true) places i 0 low
    (subst (All (λ k. is_held file k ≡ true)) (sym is) (filter_passes (is_held file) (range_with_len 0 (length file)))) in
    held_lies file (key_at file at) at sound (is_held_means file at pass)

pub listed_pairs : (file places : List ℕ) (i : ℕ) → places ≡ held_places file → length places ≤ i → map (pair_at file) (take i places) ≡ elements_of file
unfolding held_places elements_of
listed_pairs file places i is all = ap (map (pair_at file)) (take_all i places all ∙ is)
