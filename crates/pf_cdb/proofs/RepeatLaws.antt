-- Each record of a written file is held just where no key comes more than once.
use Rattle.std.proofs.Common.{◌≡◌, ◌≢◌, ◌+◌, ◌%◌, ◌<◌, ◌≤◌, ℕ, suc, Bool, true, false, not, List, [], ◌∷◌, length, map, get_or, take, refl, ap, ◌∙◌, sym, subst, arith}
use Rattle.std.specs.List.{All, Contains, list_all}
use Rattle.std.specs.Prelude.{◌&&◌}
use Rattle.std.specs.Str.{bytes_eq}
use Rattle.std.proofs.lemmas.Bool.{and_from, and_parts, eq-eqb, false_from_ne_true, not_from_false, true≢false}
use Rattle.std.proofs.lemmas.List.{get_or-map, length-map, take_all}
use Rattle.std.proofs.lemmas.List.Folds.{list_all-map, list_all_at}
use Rattle.std.proofs.lemmas.List.Elements.{All-cons, All-contains, All-filter, All-map, All-nil, All-same, All-tail, All-weaker, Contains-get_or}
use Rattle.std.proofs.lemmas.List.Kept.{AllPairs-cons}
use Rattle.std.proofs.lemmas.List.Sums.{AllPass-from_list_all, list_all-from_AllPass}
use Rattle.std.proofs.lemmas.Nat.{mod_below}
use Rattle.std.proofs.lemmas.Slice.Eq.{bytes_eq-Decides}
use Rattle.pf_base.specs.declared.pair.Pair.{Pair}
use Rattle.pf_cdb.proofs.BucketLaws.{get_by_table, length_by_table}
use Rattle.pf_cdb.proofs.ElementLaws.{held_names, is_other, names, names_first, names_later, places}
use Rattle.pf_cdb.proofs.RangeLaws.{contains_filter}
use Rattle.pf_cdb.proofs.RecordLaws.{IsPlaced, RecordsStand, first_record, other_records, pairs_read, places_above}
use Rattle.pf_cdb.proofs.WrittenLaws.{Fits}
use Rattle.pf_cdb.proofs.WrittenSoundLaws.{placed_written, records_written}
use Rattle.pf_cdb.specs.Clauses.Searching.{NamesRecord}
use Rattle.pf_cdb.specs.Held.{is_held}
use Rattle.pf_cdb.specs.Layout.{key_at, pair_at}
use Rattle.pf_cdb.specs.Written.{HasDistinctKeys, by_table, is_of_table, of_table, placed, record_size, written}
use Rattle.pf_cdb.specs.declared.layout.Slot.{Slot}

-- what holds of what some are mapped to holds of each where it is mapped
All-unmap : {X Y : Type 0} (P : Y → Type 0) (f : X → Y) (xs : List X) → All P (map f xs) → All (λ x. P (f x)) xs
All-unmap P f xs all k d low = subst P (get_or-map f xs k d (f d) low) (all k (f d) (omega (arith, length-map xs f)))

-- what all slots pass, those of each table pass
pub tables_pass : (p : Slot → Bool) (slots : List Slot) → All (λ s. p s ≡ true) slots → list_all (list_all p) (by_table slots) ≡ true
tables_pass p slots all =
    list_all-from_AllPass (list_all p) (by_table slots) (λ t d low.
    ap (list_all p) (get_by_table slots t d (omega (arith, length_by_table slots)))
    ∙ list_all-from_AllPass p (of_table slots t) (All-filter (is_of_table t) (λ s. p s ≡ true) slots all))

pub slots_pass : (p : Slot → Bool) (slots : List Slot) → list_all (list_all p) (by_table slots) ≡ true → All (λ s. p s ≡ true) slots
slots_pass p slots pass k d low =
    let slot = get_or slots k d in
    let t = slot.hash % 256 in
    let below : t < 256 = mod_below slot.hash 256 (omega arith) in
    let table : list_all p (of_table slots t) ≡ true =
    ap (list_all p) (sym (get_by_table slots t [] below))
    ∙ AllPass-from_list_all (list_all p) (by_table slots) pass t [] (omega (arith, length_by_table slots)) in
    let there : Contains (of_table slots t) slot = contains_filter (is_of_table t) slots slot (Contains-get_or slots k d low) (eq-eqb t t refl) in
    All-contains (λ s. p s ≡ true) (of_table slots t) slot (AllPass-from_list_all p (of_table slots t) table) there

-- another key
other_key : (file : List ℕ) (pair : Pair) (place : ℕ) → is_other file pair place ≡ true → pair.key ≢ key_at file place
other_key file pair place other same =
    true≢false (sym other ∙ ap not ((bytes_eq-Decides (key_at file place) pair.key).1 (sym same)))

is_another : (file : List ℕ) (pair : Pair) (place : ℕ) → pair.key ≢ key_at file place → is_other file pair place ≡ true
is_another file pair place apart =
    not_from_false (bytes_eq (key_at file place) pair.key)
    (false_from_ne_true (bytes_eq (key_at file place) pair.key) (λ t. apart (sym ((bytes_eq-Decides (key_at file place) pair.key).0 t))))

-- the places of records that are all named are those of distinct keys
distinct_named : (file : List ℕ) (at : ℕ) (pairs : List Pair) → RecordsStand file at pairs
    → All (λ place. names file (placed at pairs) place ≡ true) (places at pairs) → HasDistinctKeys pairs
distinct_named file at [] records all = λ i j d less low. absurd (omega arith)
distinct_named file at (pair ∷ pairs) records all =
    let next = at + record_size pair in
    let is = first_record file at pair pairs records in
    let others = other_records file at pair pairs records in
    let slots = placed next pairs in
    let later = places next pairs in
    let rest = All-tail (λ place. names file (placed at (pair ∷ pairs)) place ≡ true) at later all in
    let above = places_above (at + 1) next pairs (omega arith) in
    let both : All (λ place. (is_other file pair place && names file slots place) ≡ true) later =
    λ k d low. sym (names_later file at pair slots (get_or later k d) is (above k d low)) ∙ rest k d low in
    let apart : All (λ other. pair.key ≢ other.key) (map (pair_at file) later) =
    All-map (λ other. pair.key ≢ other.key) (pair_at file) later (λ k d low.
    other_key file pair (get_or later k d) (and_parts (is_other file pair (get_or later k d)) (names file slots (get_or later k d)) (both k d low)).0) in
    AllPairs-cons (λ a b. a.key ≢ b.key) pair pairs
    (All-same (λ other. pair.key ≢ other.key) pairs (map (pair_at file) later) (sym (pairs_read file next pairs others)) apart)
    (distinct_named file next pairs others (λ k d low.
    (and_parts (is_other file pair (get_or later k d)) (names file slots (get_or later k d)) (both k d low)).1))

-- and the records of distinct keys are all named
named_distinct : (file : List ℕ) (at : ℕ) (pairs : List Pair) → RecordsStand file at pairs → HasDistinctKeys pairs
    → All (λ place. names file (placed at pairs) place ≡ true) (places at pairs)
named_distinct file at [] records distinct = All-nil (λ place. names file [] place ≡ true)
named_distinct file at (pair ∷ pairs) records distinct =
    let next = at + record_size pair in
    let is = first_record file at pair pairs records in
    let others = other_records file at pair pairs records in
    let slots = placed next pairs in
    let later = places next pairs in
    let above = places_above (at + 1) next pairs (omega arith) in
    let apart : All (λ other. pair.key ≢ other.key) pairs = λ k d low. distinct 0 (suc k) d (omega arith) (omega arith) in
    let keys = All-unmap (λ other. pair.key ≢ other.key) (pair_at file) later
    (All-same (λ other. pair.key ≢ other.key) (map (pair_at file) later) pairs (pairs_read file next pairs others) apart) in
    let rest = named_distinct file next pairs others (λ i j d less low. distinct (suc i) (suc j) d (omega arith) (omega arith)) in
    All-cons (λ place. names file (placed at (pair ∷ pairs)) place ≡ true) at later (names_first file at pair slots is) (λ k d low.
    let place = get_or later k d in
    names_later file at pair slots place is (above k d low)
    ∙ and_from (is_other file pair place) (names file slots place) (is_another file pair place (keys k d low)) (rest k d low))

-- the records of a written file that its slots name are all held
abbrev pub all_held : List Pair → Bool
all_held entries = list_all (list_all (λ slot. is_held (written entries) slot.at)) (by_table (placed 2048 entries))

pub held_distinct : (entries : List Pair) → Fits entries → all_held entries ≡ true → HasDistinctKeys entries
held_distinct entries fits held =
    let file = written entries in
    let slots = placed 2048 entries in
    let all = slots_pass (λ slot. is_held file slot.at) slots held in
    distinct_named file 2048 entries (records_written entries fits)
    (All-map (λ place. names file slots place ≡ true) (λ slot. slot.at) slots (λ k d low.
    sym (held_names entries (get_or slots k d).at fits) ∙ all k d low))

pub distinct_held : (entries : List Pair) → Fits entries → HasDistinctKeys entries → all_held entries ≡ true
distinct_held entries fits distinct =
    let file = written entries in
    let slots = placed 2048 entries in
    let all = All-unmap (λ place. names file slots place ≡ true) (λ slot. slot.at) slots
    (named_distinct file 2048 entries (records_written entries fits) distinct) in
    tables_pass (λ slot. is_held file slot.at) slots (λ k d low. held_names entries (get_or slots k d).at fits ∙ all k d low)

-- what holds of all slots holds of those of each table
pub tables_all : (P : Slot → Type 0) (slots : List Slot) → All P slots → All (All P) (by_table slots)
tables_all P slots all t d low =
    subst (All P) (sym (get_by_table slots t d (omega (arith, length_by_table slots)))) (All-filter (is_of_table t) P slots all)

-- the slots of a written file name its records
pub tables_named : (entries : List Pair) (file : List ℕ) (slots : List Slot) (tables : List (List Slot)) → Fits entries → file ≡ written entries
    → slots ≡ placed 2048 entries → tables ≡ by_table slots → All (All (NamesRecord file)) tables
tables_named entries file slots tables fits is are by =
    rw (is, by, are)
    (tables_all (NamesRecord (written entries)) (placed 2048 entries)
    (All-weaker (IsPlaced (written entries)) (NamesRecord (written entries))
    (λ slot placed. record { within = omega (arith, placed.whole); hash = sym placed.hash }) (placed 2048 entries) (placed_written entries fits)))

-- lists that are kept in others
module _ {V : Type 0} (f : V → List Slot) (vs : List V) (v : V) (i : ℕ) where
  at_place : i < length vs → v ≡ get_or vs i v → get_or (map f vs) i [] ≡ f v
  at_place low is = get_or-map f vs i v [] low ∙ ap f (sym is)

  pub all_at : (Q : List Slot → Type 0) → All Q (map f vs) → i < length vs → v ≡ get_or vs i v → Q (f v)
  all_at Q all low is = subst Q (at_place low is) (all i [] (omega (arith, length-map vs f)))

  pub fails_at : (p : List Slot → Bool) (l : List Slot) (b : Bool) → i < length vs → v ≡ get_or vs i v → l ≡ f v → b ≡ p l → b ≡ false → false ≡ list_all p (map f vs)
  fails_at p l b low is same says fails =
      sym (list_all_at p (map f vs) i [] (omega (arith, length-map vs f)) (ap p (at_place low is ∙ sym same) ∙ sym says ∙ fails))

pub passes_all : {V : Type 0} (f : V → List Slot) (p : List Slot → Bool) (vs : List V) (i : ℕ) → list_all (λ v. p (f v)) (take i vs) ≡ true → length vs ≤ i
    → true ≡ list_all p (map f vs)
passes_all f p vs i pass all = sym (list_all-map p f vs ∙ ap (list_all (λ v. p (f v))) (sym (take_all i vs all)) ∙ pass)

-- what a writer says of its file
pub says_repeated : (entries : List Pair) (file : List ℕ) (slots : List Slot) (tables : List (List Slot)) (held : Bool) → Fits entries → file ≡ written entries
    → slots ≡ placed 2048 entries → tables ≡ by_table slots → held ≡ list_all (list_all (λ slot. is_held file slot.at)) tables
    → (held ≡ true → HasDistinctKeys entries) × (HasDistinctKeys entries → held ≡ true)
says_repeated entries file slots tables held fits is are by says =
    let e : held ≡ all_held entries = says ∙ rw (is, by, are) refl in (
      (λ t. held_distinct entries fits (sym e ∙ t)),
      (λ distinct. e ∙ distinct_held entries fits distinct),
    )

pub from_not : (b : Bool) → not b ≡ false → b ≡ true
from_not true e = refl
from_not false e = absurd (true≢false e)

pub not_from : (b : Bool) → not b ≡ true → b ≡ true → ⊥
not_from b e t = true≢false (sym e ∙ ap not t)
