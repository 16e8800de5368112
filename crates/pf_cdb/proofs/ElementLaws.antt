-- The pairs that a written file holds: of each key the first, in their order.
use Rattle.std.proofs.Common.{◌≡◌, ◌≢◌, ◌+◌, ◌<◌, ◌≤◌, ℕ, suc, Bool, true, false, not, List, [], ◌∷◌, Some, cond, length, map, get_or, refl, ap, ◌∙◌, sym, arith, ⊎_elim}
use Rattle.std.specs.List.{All, Contains, filter, find, range_with_len}
use Rattle.std.specs.Prelude.{◌==◌, ◌&&◌}
use Rattle.std.specs.Option.{option_map, option_map_or}
use Rattle.std.specs.Str.{bytes_eq}
use Rattle.std.proofs.lemmas.Bool.{and_left, and_right, cases_Bool, eq-eqb, false_from_ne_true, ne_eqb, not_from_false, not_from_true, true≢false}
use Rattle.std.proofs.lemmas.List.{get_or-map, length-map}
use Rattle.std.proofs.lemmas.List.Elements.{All-head, All-tail, All-weaker, filter_passes}
use Rattle.std.proofs.lemmas.List.Kept.{AllPairs-filter}
use Rattle.std.proofs.lemmas.Slice.Eq.{bytes_eq-Decides}
use Rattle.pf_base.specs.declared.pair.Pair.{Pair}
use Rattle.pf_cdb.proofs.HeldLaws.{find_there, map_some}
use Rattle.pf_cdb.proofs.ListLaws.{held_within, is_held_means}
use Rattle.pf_cdb.proofs.RangeLaws.{contains_filter, filter_range, rising_from}
use Rattle.pf_cdb.proofs.RecordLaws.{IsRecord, RecordsStand, first_record, key_of_pair, other_records, places_above, places_rise, same_pair}
use Rattle.pf_cdb.proofs.WrittenLaws.{Fits}
use Rattle.pf_cdb.proofs.WrittenSoundLaws.{held_written, records_written, sound_written}
use Rattle.pf_cdb.specs.Hash.{hash_of}
use Rattle.pf_cdb.specs.Held.{elements_of, has_key, is_held}
use Rattle.pf_cdb.specs.Layout.{key_at, pair_at}
use Rattle.pf_cdb.specs.Written.{HasDistinctKeys, firsts, placed, record_size, written}
use Rattle.pf_cdb.specs.declared.layout.Slot.{Slot}

abbrev pub places : ℕ → List Pair → List ℕ
places at pairs = map (λ slot. slot.at) (placed at pairs)

-- of the slots of some records, whether the first that has the key of the record at a place names this place
abbrev pub names : List ℕ → List Slot → ℕ → Bool
names file slots place =
    option_map_or (λ at. at == place) (option_map (λ slot. slot.at) (find (has_key file (key_at file place)) slots)) false

-- whether the record at a place has another key than a pair
abbrev pub is_other : List ℕ → Pair → ℕ → Bool
is_other file pair place = not (bytes_eq (key_at file place) pair.key)

bytes_turn : (a b : List ℕ) → bytes_eq a b ≡ bytes_eq b a
bytes_turn a b =
    ⊎_elim {A = bytes_eq b a ≡ true} {B = bytes_eq b a ≡ false}
    (λ t. (bytes_eq-Decides a b).1 (sym ((bytes_eq-Decides b a).0 t)) ∙ sym t)
    (λ f. false_from_ne_true (bytes_eq a b) (λ t. true≢false (sym ((bytes_eq-Decides b a).1 (sym ((bytes_eq-Decides a b).0 t))) ∙ f)) ∙ sym f)
    (cases_Bool (bytes_eq b a))

-- the first record is named by its slot
pub names_first : (file : List ℕ) (at : ℕ) (pair : Pair) (slots : List Slot) → IsRecord file at pair → names file (record { hash = hash_of pair.key; at = at } ∷ slots) at ≡ true
names_first file at pair slots is =
    let slot : Slot = record { hash = hash_of pair.key; at = at } in
    let rest = find (has_key file (key_at file at)) slots in
    let same : bytes_eq pair.key (key_at file at) ≡ true = (bytes_eq-Decides pair.key (key_at file at)).1 (sym is.key) in
    ap (λ b. option_map_or (λ p. p == at) (option_map (λ s. s.at) (cond b (Some slot) rest)) false) (key_of_pair file (key_at file at) at pair is ∙ same)
    ∙ eq-eqb at at refl

-- a later one where the others name it and it has another key
pub names_later : (file : List ℕ) (at : ℕ) (pair : Pair) (slots : List Slot) (place : ℕ) → IsRecord file at pair → at + 1 ≤ place
    → names file (record { hash = hash_of pair.key; at = at } ∷ slots) place ≡ (is_other file pair place && names file slots place)
names_later file at pair slots place is above =
    let slot : Slot = record { hash = hash_of pair.key; at = at } in
    let key = key_at file place in
    let rest = find (has_key file key) slots in
    let test : has_key file key slot ≡ bytes_eq key pair.key = key_of_pair file key at pair is ∙ bytes_turn pair.key key in
    let read = λ (b : Bool). option_map_or (λ p. p == place) (option_map (λ s. s.at) (cond b (Some slot) rest)) false in
    ap read test
    ∙ ⊎_elim {A = bytes_eq key pair.key ≡ true} {B = bytes_eq key pair.key ≡ false}
    (λ t.
    ap read t ∙ ne_eqb at place (λ e. absurd (omega arith))
    ∙ sym (and_left (is_other file pair place) (names file slots place) (not_from_true (bytes_eq key pair.key) t)))
    (λ f. ap read f ∙ sym (ap (λ b. not b && names file slots place) f))
    (cases_Bool (bytes_eq key pair.key))

filter_same : {X : Type 0} (p q : X → Bool) (xs : List X) → All (λ x. p x ≡ q x) xs → filter p xs ≡ filter q xs
filter_same p q [] all = refl
filter_same p q (x ∷ xs) all =
    ap (λ l. cond (p x) (x ∷ l) l) (filter_same p q xs (All-tail (λ y. p y ≡ q y) x xs all))
    ∙ ap (λ b. cond b (x ∷ filter q xs) (filter q xs)) (All-head (λ y. p y ≡ q y) x xs all)

and_true : (b : Bool) → (b && true) ≡ b
and_true true = refl
and_true false = refl

filter_and : {X : Type 0} (p q : X → Bool) (xs : List X) → filter (λ x. p x && q x) xs ≡ filter p (filter q xs)
filter_and p q [] = refl
filter_and p q (x ∷ xs) =
    let rest = filter_and p q xs in
    ⊎_elim {A = q x ≡ true} {B = q x ≡ false}
    (λ t.
    let both : (p x && q x) ≡ p x = ap (λ b. p x && b) t ∙ and_true (p x) in
    ap (λ b. cond b (x ∷ filter (λ y. p y && q y) xs) (filter (λ y. p y && q y) xs)) both
    ∙ ap (λ l. cond (p x) (x ∷ l) l) rest
    ∙ sym (ap (λ b. filter p (cond b (x ∷ filter q xs) (filter q xs))) t))
    (λ f.
    ap (λ b. cond b (x ∷ filter (λ y. p y && q y) xs) (filter (λ y. p y && q y) xs)) (and_right (p x) (q x) f)
    ∙ rest
    ∙ sym (ap (λ b. filter p (cond b (x ∷ filter q xs) (filter q xs))) f))
    (cases_Bool (q x))

cond_map : {X Y : Type 0} (f : X → Y) (b : Bool) (x : X) (xs : List X) → map f (cond b (x ∷ xs) xs) ≡ cond b (f x ∷ map f xs) (map f xs)
cond_map f true x xs = refl
cond_map f false x xs = refl

map_filter : {X Y : Type 0} (f : X → Y) (p : Y → Bool) (xs : List X) → map f (filter (λ x. p (f x)) xs) ≡ filter p (map f xs)
map_filter f p [] = refl
map_filter f p (x ∷ xs) = cond_map f (p (f x)) x (filter (λ y. p (f y)) xs) ∙ ap (λ l. cond (p (f x)) (f x ∷ l) l) (map_filter f p xs)

-- the pairs at the places that are named are the first of each key
pairs_named : (file : List ℕ) (at : ℕ) (pairs : List Pair) → RecordsStand file at pairs
    → map (pair_at file) (filter (names file (placed at pairs)) (places at pairs)) ≡ firsts pairs
pairs_named file at [] records = refl
pairs_named file at (pair ∷ pairs) records =
    let next = at + record_size pair in
    let is = first_record file at pair pairs records in
    let all = names file (placed at (pair ∷ pairs)) in
    let others = names file (placed next pairs) in
    let later = places next pairs in
    let same : filter all later ≡ filter (is_other file pair) (filter others later) =
    filter_same all (λ place. is_other file pair place && others place) later
    (All-weaker (λ place. at + 1 ≤ place) (λ place. all place ≡ (is_other file pair place && others place))
    (λ place above. names_later file at pair (placed next pairs) place is above) later (places_above (at + 1) next pairs (omega arith)))
    ∙ filter_and (is_other file pair) others later in
    ap (λ b. map (pair_at file) (cond b (at ∷ filter all later) (filter all later))) (names_first file at pair (placed next pairs) is)
    ∙ ap (λ p. p ∷ map (pair_at file) (filter all later)) (same_pair file at pair is)
    ∙ ap (λ l. pair ∷ map (pair_at file) l) same
    ∙ ap (λ l. pair ∷ l) (map_filter (pair_at file) (λ p. not (bytes_eq p.key pair.key)) (filter others later))
    ∙ ap (λ l. pair ∷ filter (λ p. not (bytes_eq p.key pair.key)) l) (pairs_named file next pairs (other_records file at pair pairs records))

-- a record of the file is held where it is named
pub held_names : (entries : List Pair) (place : ℕ) → Fits entries → is_held (written entries) place ≡ names (written entries) (placed 2048 entries) place
unfolding is_held
held_names entries place fits = ap (λ o. option_map_or (λ at. at == place) o false) (held_written entries (key_at (written entries) place) fits)

held_among : (entries : List Pair) (place : ℕ) → Fits entries → is_held (written entries) place ≡ true → Contains (places 2048 entries) place
held_among entries place fits e =
    let file = written entries in
    let key = key_at file place in
    let found = sym (held_written entries key fits) ∙ is_held_means file place e in
    let slot = map_some (λ s. s.at) (find (has_key file key) (placed 2048 entries)) place found in
    let there = find_there (has_key file key) (placed 2048 entries) slot.0 slot.1 in (
      there.0,
      omega (arith, there.1, length-map (placed 2048 entries) (λ s. s.at)),
      get_or-map (λ s. s.at) (placed 2048 entries) there.0 slot.0 place there.1 ∙ ap (λ s. s.at) there.2 ∙ slot.2,
    )

places_held : (entries : List Pair) → Fits entries
    → filter (is_held (written entries)) (range_with_len 0 (length (written entries))) ≡ filter (is_held (written entries)) (places 2048 entries)
places_held entries fits =
    let file = written entries in
    let test = is_held file in
    let these = filter test (places 2048 entries) in
    let pass = filter_passes test (places 2048 entries) in
    filter_range test 0 (length file) (length file) these (omega arith)
    (rising_from 0 (length file) these (AllPairs-filter (λ x y. x < y) test (places 2048 entries) (places_rise 2048 entries))
    (All-weaker (λ p. test p ≡ true) (λ p. (0 ≤ p) × (p < length file)) (λ p e. held_within file p (sound_written entries fits) e) these pass))
    (record { pass = pass; whole = λ k above below e. contains_filter test (places 2048 entries) k (held_among entries k fits e) e })

pub elements_written : (entries : List Pair) → Fits entries → elements_of (written entries) ≡ firsts entries
unfolding elements_of
elements_written entries fits =
    ap (map (pair_at (written entries)))
    (places_held entries fits
    ∙ filter_same (is_held (written entries)) (names (written entries) (placed 2048 entries)) (places 2048 entries)
    (λ k d low. held_names entries (get_or (places 2048 entries) k d) fits))
    ∙ pairs_named (written entries) 2048 entries (records_written entries fits)

-- where no key comes twice, they are all
keep_all : {X : Type 0} (p : X → Bool) (xs : List X) → All (λ x. p x ≡ true) xs → filter p xs ≡ xs
keep_all p [] all = refl
keep_all p (x ∷ xs) all =
    ap (λ b. cond b (x ∷ filter p xs) (filter p xs)) (All-head (λ y. p y ≡ true) x xs all)
    ∙ ap (λ l. x ∷ l) (keep_all p xs (All-tail (λ y. p y ≡ true) x xs all))

pub firsts_all : (pairs : List Pair) → HasDistinctKeys pairs → firsts pairs ≡ pairs
firsts_all [] distinct = refl
firsts_all (pair ∷ pairs) distinct =
    ap (λ l. pair ∷ filter (λ other. not (bytes_eq other.key pair.key)) l) (firsts_all pairs (λ i j d less low. distinct (suc i) (suc j) d (omega arith) (omega arith)))
    ∙ ap (λ l. pair ∷ l)
    (keep_all (λ other. not (bytes_eq other.key pair.key)) pairs (λ k d low.
    let other = get_or pairs k d in
    let apart : pair.key ≢ other.key = distinct 0 (suc k) d (omega arith) (omega arith) in
    not_from_false (bytes_eq other.key pair.key)
    (false_from_ne_true (bytes_eq other.key pair.key) (λ t. apart (sym ((bytes_eq-Decides other.key pair.key).0 t))))))
