-- Pairs that are kept in bytes, with the chains of their places.
use Rattle.std.proofs.Common.{◌≡◌, ◌≢◌, ◌<◌, ◌≤◌, ◌+◌, ◌-◌, ◌==◌, ◌++◌, ℕ, zero, suc, Bool, true, false, List, [], ◌∷◌, Option, None, Some, length, take, drop, set, get_or, replicate, refl, sym, ap, ◌∙◌, if◌then◌else◌, append_assoc, arith, length-append}
use Rattle.std.proofs.lemmas.Bool.{eq-eqb, eqb-true}
use Rattle.std.proofs.lemmas.List.{drop-append-le, drop_at, get_or-replicate, get_or-set_other, get_or-set_same, get_or_read, length-drop, length-replicate, length-set, length-take, length_push, map-set, map_push, take-append-le, take-take, take_all, take_at}
use Rattle.std.proofs.lemmas.Option.{same_Some, slice_get-map}
use Rattle.std.proofs.lemmas.Slice.Eq.{bytes_eq-Decides}
use Rattle.std.specs.Option.{option_map, option_or}
use Rattle.std.specs.Prelude.{map, slice_get, slice_index, slice_range}
use Rattle.std.specs.Str.{bytes_eq}
use Rattle.pf_base.specs.Clauses.Prefixes.{AddsPrefix}
use Rattle.pf_base.specs.declared.pair.Pair.{Pair}
use Rattle.pf_table.proofs.IndexLaws.{index_push, index_within, keys_stay, last_in_bucket, last_push, last_within, up_to_last_is}
use Rattle.pf_table.specs.Clauses.Keeping.{IsKept, IsPlaced, bucket_of, index_of, keys_of, pair_at, pairs_at, up_to_last}
use Rattle.pf_table.specs.declared.pairs.Place.{Place}

-- the key at a place
abbrev key_at : List ℕ → Place → List ℕ
key_at bytes place = slice_range bytes place.key place.value

abbrev keys_at : List ℕ → List Place → List (List ℕ)
keys_at bytes places = keys_of (pairs_at bytes places)

-- as many keys as places
pub length_keys : (bytes : List ℕ) (places : List Place) → length (keys_at bytes places) ≡ length places
length_keys bytes [] = refl
length_keys bytes (place ∷ places) = ap (λ n. suc n) (length_keys bytes places)

keys_get : (bytes : List ℕ) (places : List Place) (i : ℕ) (place : Place) → slice_get places i ≡ Some place → slice_get (keys_at bytes places) i ≡ Some (key_at bytes place)
keys_get bytes [] i place at = cc
keys_get bytes (first ∷ places) zero place at = let e : first ≡ place = cc in ap (λ one. Some (key_at bytes one)) e
keys_get bytes (first ∷ places) (suc i) place at = keys_get bytes places i place at

-- bytes that more come after
range_more : (bytes extra : List ℕ) (a b : ℕ) → a ≤ b → b ≤ length bytes → slice_range (bytes ++ extra) a b ≡ slice_range bytes a b
range_more bytes extra a b order within =
    let low : a ≤ length bytes = omega arith in
    let fits : b - a ≤ length (drop a bytes) = omega (arith, length-drop a bytes) in
    ap (take (b - a)) (drop-append-le a bytes extra low) ∙ take-append-le (b - a) (drop a bytes) extra fits

-- what is made of each item alike
map_same : {A B : Type 0} (f g : A → B) (xs : List A) → ((i : ℕ) (x : A) → slice_get xs i ≡ Some x → f x ≡ g x) → map f xs ≡ map g xs
map_same f g [] alike = refl
map_same f g (x ∷ xs) alike = ap (λ y. y ∷ map f xs) (alike 0 x refl) ∙ ap (λ ys. g x ∷ ys) (map_same f g xs (λ i y at. alike (suc i) y at))

pub pairs_more : (bytes extra : List ℕ) (places : List Place) (heads : List ℕ) → IsKept bytes places heads → pairs_at (bytes ++ extra) places ≡ pairs_at bytes places
pairs_more bytes extra places heads kept = map_same (pair_at (bytes ++ extra)) (pair_at bytes) places alike
  where
    alike : (i : ℕ) (place : Place) → slice_get places i ≡ Some place → pair_at (bytes ++ extra) place ≡ pair_at bytes place
    alike i place at =
        let is = kept.placed i place at in
        let low : place.value ≤ length bytes = omega (arith, is.value, is.within) in
        let key = range_more bytes extra place.key place.value is.key low in
        let value = range_more bytes extra place.value place.end is.value is.within in
        ap (λ k. record { key = k; value = slice_range (bytes ++ extra) place.value place.end }) key
        ∙ ap (λ v. record { key = slice_range bytes place.key place.value; value = v }) value

pub kept_more : (bytes extra : List ℕ) (places : List Place) (heads : List ℕ) → IsKept bytes places heads → IsKept (bytes ++ extra) places heads
kept_more bytes extra places heads kept = record {
  some = kept.some;
  placed = λ i place at. placed i place at (kept.placed i place at);
  last = λ bucket low. rw pairs (kept.last bucket low);
}
  where
    pairs : pairs_at (bytes ++ extra) places ≡ pairs_at bytes places
    pairs = pairs_more bytes extra places heads kept

    placed : (i : ℕ) (place : Place) → slice_get places i ≡ Some place → IsPlaced bytes (length heads) (take i (keys_at bytes places)) place
        → IsPlaced (bytes ++ extra) (length heads) (take i (keys_at (bytes ++ extra) places)) place
    placed i place at is =
        let low : place.value ≤ length bytes = omega (arith, is.value, is.within) in
        let key : slice_range (bytes ++ extra) place.key place.value ≡ slice_range bytes place.key place.value = range_more bytes extra place.key place.value is.key low in
        record {
          key = is.key;
          value = is.value;
          within = omega (arith, is.within, length-append bytes extra);
          previous = rw (pairs, key) is.previous;
          new = rw (pairs, key) is.new;
        }

-- an item of a list with one more
push_cases : {A P : Type 0} (xs : List A) (y : A) (i : ℕ) (x : A) → slice_get (xs ++ y ∷ []) i ≡ Some x
    → (i < length xs → slice_get xs i ≡ Some x → P) → (i ≡ length xs → y ≡ x → P) → P
push_cases [] y zero x at before last = last refl (cc)
push_cases [] y (suc i) x at before last = let e : None ≡ Some x = at in cc
push_cases (first ∷ xs) y zero x at before last = before (omega arith) at
push_cases (first ∷ xs) y (suc i) x at before last = push_cases xs y i x at (λ low e. before (omega arith) e) (λ here e. last (ap (λ n. suc n) here) e)

-- an item of a list with another one in a place
set_cases : {A P : Type 0} (xs : List A) (j : ℕ) (y : A) (i : ℕ) (x : A) → slice_get (set xs j y) i ≡ Some x
    → (slice_get xs i ≡ Some x → P) → (i ≡ j → y ≡ x → P) → P
set_cases [] j y i x at other here = other at
set_cases (first ∷ xs) zero y zero x at other here = here refl (cc)
set_cases (first ∷ xs) zero y (suc i) x at other here = other at
set_cases (first ∷ xs) (suc j) y zero x at other here = other at
set_cases (first ∷ xs) (suc j) y (suc i) x at other here = set_cases xs j y i x at other (λ e is. here (ap (λ n. suc n) e) is)

-- a place is in bytes
pub record IsWithin (bytes : List ℕ) (place : Place) : Type 0 where
  pub key : place.key ≤ place.value
  pub value : place.value ≤ place.end
  pub within : place.end ≤ length bytes

-- a place of a new key, after the others
pub kept_push : (bytes : List ℕ) (places : List Place) (heads : List ℕ) (place : Place) → IsKept bytes places heads → IsWithin bytes place
    → index_of (key_at bytes place) (keys_at bytes places) ≡ None → place.previous ≡ slice_index heads (bucket_of (length heads) (key_at bytes place))
    → bucket_of (length heads) (key_at bytes place) < length heads
    → IsKept bytes (places ++ place ∷ []) (set heads (bucket_of (length heads) (key_at bytes place)) (length places + 1))
kept_push bytes places heads place kept is new previous low = record {
  some = rw size kept.some;
  placed = λ i other at. rw (size, keys) (push_cases places place i other at (λ below e. before i other below (kept.placed i other e)) (λ here e. last i other here e));
  last = λ bucket within. rw (size, keys, last_push buckets bucket (keys_at bytes places) (key_at bytes place)) (head bucket (rw size at within));
}
  where
    buckets : ℕ
    buckets = length heads

    size : length (set heads (bucket_of (length heads) (key_at bytes place)) (length places + 1)) ≡ length heads
    size = length-set heads (bucket_of (length heads) (key_at bytes place)) (length places + 1)

    keys : keys_at bytes (places ++ place ∷ []) ≡ keys_at bytes places ++ key_at bytes place ∷ []
    keys = ap keys_of (map_push (pair_at bytes) places place) ∙ map_push (λ (pair : Pair). pair.key) (pairs_at bytes places) (pair_at bytes place)

    before : (i : ℕ) (other : Place) → i < length places → IsPlaced bytes (length heads) (take i (keys_at bytes places)) other
        → IsPlaced bytes (length heads) (take i (keys_at bytes places ++ key_at bytes place ∷ [])) other
    before i other below there =
        let fits : i ≤ length (keys_at bytes places) = omega (arith, length_keys bytes places) in
        rw (take-append-le i (keys_at bytes places) (key_at bytes place ∷ []) fits) there

    last : (i : ℕ) (other : Place) → i ≡ length places → place ≡ other → IsPlaced bytes (length heads) (take i (keys_at bytes places ++ key_at bytes place ∷ [])) other
    last i other here e =
        rw (← e, take_at (keys_at bytes places) (key_at bytes place ∷ []) i (length_keys bytes places ∙ sym here)) (record {
          key = is.key;
          value = is.value;
          within = is.within;
          previous = previous ∙ kept.last (bucket_of (length heads) (key_at bytes place)) low;
          new = new;
        })

    head : (bucket : ℕ) → bucket < length heads
        → slice_index (set heads (bucket_of (length heads) (key_at bytes place)) (length places + 1)) bucket
        ≡ (if bucket_of (length heads) (key_at bytes place) == bucket then suc (length (keys_at bytes places)) else up_to_last (length heads) bucket (keys_at bytes places))
    head bucket within = by (bucket_of (length heads) (key_at bytes place) == bucket) refl
      where
        by : (t : Bool) → (bucket_of (length heads) (key_at bytes place) == bucket) ≡ t
            → slice_index (set heads (bucket_of (length heads) (key_at bytes place)) (length places + 1)) bucket
            ≡ (if t then suc (length (keys_at bytes places)) else up_to_last (length heads) bucket (keys_at bytes places))
        by true h =
            let e : bucket_of (length heads) (key_at bytes place) ≡ bucket = eqb-true _ _ h in
            let count : length places + 1 ≡ suc (length (keys_at bytes places)) = omega (arith, length_keys bytes places) in
            rw e (get_or-set_same heads bucket (length places + 1) 0 within ∙ count)
        by false h = get_or-set_other heads (bucket_of (length heads) (key_at bytes place)) bucket (length places + 1) 0 (other h) ∙ kept.last bucket within
          where
            other : (bucket_of (length heads) (key_at bytes place) == bucket) ≡ false → bucket ≢ bucket_of (length heads) (key_at bytes place)
            other h e = let t : (bucket_of (length heads) (key_at bytes place) == bucket) ≡ true = eq-eqb _ _ (sym e) in cc

-- what is put in a place is there
set_there : {A : Type 0} (xs : List A) (i : ℕ) (y x : A) → slice_get xs i ≡ Some x → slice_get (set xs i y) i ≡ Some y
set_there [] i y x at = cc
set_there (first ∷ xs) zero y x at = refl
set_there (first ∷ xs) (suc i) y x at = set_there xs i y x at

-- a place in the place of another of its key
pub kept_set : (bytes : List ℕ) (places : List Place) (heads : List ℕ) (i : ℕ) (old place : Place) → IsKept bytes places heads → IsWithin bytes place
    → slice_get places i ≡ Some old → index_of (key_at bytes place) (keys_at bytes places) ≡ Some i → place.previous ≡ old.previous
    → IsKept bytes (set places i place) heads
kept_set bytes places heads i old place kept is at found previous = record {
  some = kept.some;
  placed = λ j other here. rw keys (set_cases places i place j other here (λ e. kept.placed j other e) (λ same e. put j other same e));
  last = λ bucket low. rw keys (kept.last bucket low);
}
  where
    keys : keys_at bytes (set places i place) ≡ keys_at bytes places
    keys = ap keys_of (map-set (pair_at bytes) places i place) ∙ map-set (λ (pair : Pair). pair.key) (pairs_at bytes places) i (pair_at bytes place)
        ∙ keys_stay (keys_at bytes places) (key_at bytes place) i found

    there : Some (key_at bytes old) ≡ Some (key_at bytes place)
    there =
        sym (keys_get bytes places i old at)
        ∙ ap (λ xs. slice_get xs i) (sym (keys_stay (keys_at bytes places) (key_at bytes place) i found))
        ∙ set_there (keys_at bytes places) i (key_at bytes place) (key_at bytes old) (keys_get bytes places i old at)

    key_is : key_at bytes old ≡ key_at bytes place
    key_is = same_Some (key_at bytes old) (key_at bytes place) there

    put : (j : ℕ) (other : Place) → j ≡ i → place ≡ other → IsPlaced bytes (length heads) (take j (keys_at bytes places)) other
    put j other same e =
        let was = kept.placed i old at in
        rw (same, ← e) (record {
          key = is.key;
          value = is.value;
          within = is.within;
          previous = rw (← key_is) (previous ∙ was.previous);
          new = rw (← key_is) was.new;
        })

-- no pairs
pub kept_none : (buckets : ℕ) → 0 < buckets → IsKept [] [] (replicate buckets 0)
kept_none buckets some = record {
  some = omega (arith, length-replicate {A = ℕ} buckets 0);
  placed = λ i place at. let e : None ≡ Some place = at in cc;
  last = λ bucket low. get_or-replicate buckets bucket 0 0 (omega (arith, length-replicate {A = ℕ} buckets 0));
}

-- the bytes of a pair that were added
pub range_key : (bytes key value : List ℕ) → slice_range (bytes ++ (key ++ value)) (length bytes) (length bytes + length key) ≡ key
range_key bytes key value =
    let count : length bytes + length key - length bytes ≡ length key = omega arith in
    rw count (ap (take (length key)) (drop_at bytes (key ++ value) (length bytes) refl) ∙ take_at key value (length key) refl)

pub range_value : (bytes key value : List ℕ)
    → slice_range (bytes ++ (key ++ value)) (length bytes + length key) (length bytes + length key + length value) ≡ value
range_value bytes key value =
    let count : length bytes + length key + length value - (length bytes + length key) ≡ length value = omega arith in
    let joined : bytes ++ (key ++ value) ≡ (bytes ++ key) ++ value = sym (append_assoc bytes key value) in
    rw (count, joined) (ap (take (length value)) (drop_at (bytes ++ key) value (length bytes + length key) (length-append bytes key)) ∙ take_all (length value) value (omega arith))

-- bytes of which a part was added
pub kept_prefix : (bytes new text : List ℕ) (places : List Place) (heads : List ℕ) → AddsPrefix bytes new text → IsKept bytes places heads → IsKept new places heads
kept_prefix bytes new text places heads adds kept = rw adds.is (kept_more bytes (take adds.count text) places heads kept)

-- where a pair is that was added to bytes
abbrev place_after : List ℕ → List ℕ → List ℕ → ℕ → Place
place_after bytes key value previous = record {
  key = length bytes;
  value = length bytes + length key;
  end = length bytes + length key + length value;
  previous = previous;
}

is_within : (bytes key value : List ℕ) (previous : ℕ) → IsWithin (bytes ++ (key ++ value)) (place_after bytes key value previous)
is_within bytes key value previous = record {
  key = omega arith;
  value = omega arith;
  within = omega (arith, length-append bytes (key ++ value), length-append key value);
}

pair_is : (bytes key value : List ℕ) (previous : ℕ)
    → pair_at (bytes ++ (key ++ value)) (place_after bytes key value previous) ≡ record { key = key; value = value }
pair_is bytes key value previous =
    ap (λ k. record { key = k; value = slice_range (bytes ++ (key ++ value)) (length bytes + length key) (length bytes + length key + length value) }) (range_key bytes key value)
    ∙ ap (λ v. record { key = key; value = v }) (range_value bytes key value)

-- what is known once a pair was added to bytes
pub record IsAdded (bytes new key value : List ℕ) (place : Place) (previous : ℕ) : Type 0 where
  pub new_is : new ≡ bytes ++ (key ++ value)
  pub place_is : place ≡ record { key = length bytes; value = length bytes + length key; end = length bytes + length key + length value; previous = previous }

-- a pair whose key is new
pub pushed : (bytes new key value : List ℕ) (places more : List Place) (heads : List ℕ) (place : Place) (bucket previous count : ℕ) → IsKept bytes places heads
    → index_of key (keys_at bytes places) ≡ None → IsAdded bytes new key value place previous → more ≡ places ++ place ∷ []
    → bucket ≡ bucket_of (length heads) key → bucket < length heads → previous ≡ get_or heads bucket previous → count ≡ length more
    → IsKept new more (set heads bucket count)
pushed bytes new key value places more heads place bucket previous count kept absent added more_is bucket_is low previous_is count_is =
    let counted : count ≡ length places + 1 = count_is ∙ ap length more_is ∙ length_push places place in
    rw (added.new_is, more_is, added.place_is, counted, bucket_is) (rw key_is at done)
  where
    key_is : slice_range (bytes ++ (key ++ value)) (length bytes) (length bytes + length key) ≡ key
    key_is = range_key bytes key value

    low_of : bucket_of (length heads) (key_at (bytes ++ (key ++ value)) (place_after bytes key value previous)) < length heads
    low_of = rw (key_is, ← bucket_is) low

    leads : previous ≡ slice_index heads (bucket_of (length heads) (key_at (bytes ++ (key ++ value)) (place_after bytes key value previous)))
    leads = rw (key_is, ← bucket_is) (get_or_read heads bucket previous low previous_is 0)

    absent_of : index_of (key_at (bytes ++ (key ++ value)) (place_after bytes key value previous)) (keys_at (bytes ++ (key ++ value)) places) ≡ None
    absent_of = rw (key_is, pairs_more bytes (key ++ value) places heads kept) absent

    done : IsKept (bytes ++ (key ++ value)) (places ++ place_after bytes key value previous ∷ [])
        (set heads (bucket_of (length heads) (key_at (bytes ++ (key ++ value)) (place_after bytes key value previous))) (length places + 1))
    done =
        kept_push (bytes ++ (key ++ value)) places heads (place_after bytes key value previous) (kept_more bytes (key ++ value) places heads kept)
        (is_within bytes key value previous) absent_of leads low_of

pub pushed_pairs : (bytes new key value : List ℕ) (places more : List Place) (heads : List ℕ) (place : Place) (previous : ℕ) → IsKept bytes places heads
    → IsAdded bytes new key value place previous → more ≡ places ++ place ∷ []
    → pairs_at new more ≡ pairs_at bytes places ++ record { key = key; value = value } ∷ []
pushed_pairs bytes new key value places more heads place previous kept added more_is =
    rw (added.new_is, more_is, added.place_is)
    (map_push (pair_at (bytes ++ (key ++ value))) places (place_after bytes key value previous)
    ∙ ap (λ pairs. pairs ++ pair_at (bytes ++ (key ++ value)) (place_after bytes key value previous) ∷ []) (pairs_more bytes (key ++ value) places heads kept)
    ∙ ap (λ pair. pairs_at bytes places ++ pair ∷ []) (pair_is bytes key value previous))

-- a pair in the place of the one of its key
pub replaced : (bytes new key value : List ℕ) (places : List Place) (heads : List ℕ) (old place : Place) (i : ℕ) → IsKept bytes places heads
    → index_of key (keys_at bytes places) ≡ Some i → IsAdded bytes new key value place old.previous → slice_get places i ≡ Some old
    → IsKept new (set places i place) heads
replaced bytes new key value places heads old place i kept found added at =
    rw (added.new_is, added.place_is)
    (kept_set (bytes ++ (key ++ value)) places heads i old (place_after bytes key value old.previous) (kept_more bytes (key ++ value) places heads kept)
    (is_within bytes key value old.previous) at found_of refl)
  where
    found_of : index_of (key_at (bytes ++ (key ++ value)) (place_after bytes key value old.previous)) (keys_at (bytes ++ (key ++ value)) places) ≡ Some i
    found_of = rw (range_key bytes key value, pairs_more bytes (key ++ value) places heads kept) found

pub replaced_pairs : (bytes new key value : List ℕ) (places : List Place) (heads : List ℕ) (place : Place) (i previous : ℕ) → IsKept bytes places heads
    → IsAdded bytes new key value place previous → pairs_at new (set places i place) ≡ set (pairs_at bytes places) i (record { key = key; value = value })
replaced_pairs bytes new key value places heads place i previous kept added =
    rw (added.new_is, added.place_is)
    (map-set (pair_at (bytes ++ (key ++ value))) places i (place_after bytes key value previous)
    ∙ ap (λ pairs. set pairs i (pair_at (bytes ++ (key ++ value)) (place_after bytes key value previous))) (pairs_more bytes (key ++ value) places heads kept)
    ∙ ap (λ pair. set (pairs_at bytes places) i pair) (pair_is bytes key value previous))

-- a pair is at its place
pub pair_get : (bytes : List ℕ) (places : List Place) (i : ℕ) (place : Place) → slice_get places i ≡ Some place → slice_get (pairs_at bytes places) i ≡ Some (pair_at bytes place)
pair_get bytes places i place at = slice_get-map (pair_at bytes) places i ∙ ap (option_map (pair_at bytes)) at

pub index_low : (bytes key : List ℕ) (places : List Place) (i : ℕ) → index_of key (keys_at bytes places) ≡ Some i → i < length places
index_low bytes key places i is = let low = index_within key (keys_at bytes places) i is in omega (arith, low, length_keys bytes places)

-- the keys before a place, while a key is looked for: it is not among the others, and this is the last one in its bucket
pub record IsLeft (buckets : ℕ) (key : List ℕ) (keys : List (List ℕ)) (up_to : ℕ) : Type 0 where
  pub before : ℕ
  pub last : up_to ≡ up_to_last buckets (bucket_of buckets key) (take before keys)
  pub left : index_of key (take before keys) ≡ index_of key keys

pub left_all : (bytes key : List ℕ) (places : List Place) (heads : List ℕ) (up_to : ℕ) → IsKept bytes places heads
    → bucket_of (length heads) key < length heads → up_to ≡ slice_index heads (bucket_of (length heads) key) → IsLeft (length heads) key (keys_at bytes places) up_to
left_all bytes key places heads up_to kept low is =
    let all : take (length (keys_at bytes places)) (keys_at bytes places) ≡ keys_at bytes places = take_all (length (keys_at bytes places)) (keys_at bytes places) (omega arith) in
    record {
      before = length (keys_at bytes places);
      last = is ∙ kept.last (bucket_of (length heads) key) low ∙ ap (up_to_last (length heads) (bucket_of (length heads) key)) (sym all);
      left = ap (index_of key) all;
    }

-- the places that are left are some of all
pub left_within : (bytes key : List ℕ) (places : List Place) (buckets up_to : ℕ) → IsLeft buckets key (keys_at bytes places) up_to → up_to ≤ length places
left_within bytes key places buckets up_to is =
    let low = last_within buckets (bucket_of buckets key) (take is.before (keys_at bytes places)) in
    let last = is.last in
    omega (arith, low, last, length-take is.before (keys_at bytes places), length_keys bytes places)

take_get : {A : Type 0} (xs : List A) (j : ℕ) (x : A) → slice_get xs j ≡ Some x → take (suc j) xs ≡ take j xs ++ x ∷ []
take_get [] j x at = cc
take_get (first ∷ xs) zero x at = let e : first ≡ x = cc in ap (λ one. one ∷ []) e
take_get (first ∷ xs) (suc j) x at = ap (λ more. first ∷ more) (take_get xs j x at)

get_take : {A : Type 0} (xs : List A) (n j : ℕ) → j < n → slice_get (take n xs) j ≡ slice_get xs j
get_take xs zero j low = absurd (omega arith)
get_take [] (suc n) j low = refl
get_take (x ∷ xs) (suc n) zero low = refl
get_take (x ∷ xs) (suc n) (suc j) low = get_take xs n j (omega arith)

-- the key at the last of them is in the bucket, and no key after it is the one that is looked for
pub record IsTurn (buckets : ℕ) (key : List ℕ) (keys : List (List ℕ)) (j : ℕ) (here : List ℕ) : Type 0 where
  pub bucket : bucket_of buckets here ≡ bucket_of buckets key
  pub left : index_of key keys ≡ option_or (index_of key (take j keys)) (if bytes_eq key here then Some j else None)

turn : (bytes key : List ℕ) (places : List Place) (buckets up_to j : ℕ) (place : Place) → IsLeft buckets key (keys_at bytes places) up_to → up_to ≡ suc j
    → slice_get places j ≡ Some place → IsTurn buckets key (keys_at bytes places) j (key_at bytes place)
turn bytes key places buckets up_to j place is up at = record {
  bucket = last_in_bucket buckets (bucket_of buckets key) (take is.before (keys_at bytes places)) j (key_at bytes place) last
      (get_take (keys_at bytes places) is.before j (let b = below in omega (arith, b)) ∙ keys_get bytes places j place at);
  left =
      sym is.left
      ∙ sym (up_to_last_is buckets key (take is.before (keys_at bytes places)))
      ∙ ap (λ n. index_of key (take n (take is.before (keys_at bytes places)))) last
      ∙ ap (index_of key) (take-take (suc j) is.before (keys_at bytes places) below)
      ∙ ap (index_of key) (take_get (keys_at bytes places) j (key_at bytes place) (keys_get bytes places j place at))
      ∙ index_push key (take j (keys_at bytes places)) (key_at bytes place)
      ∙ ap (λ n. option_or (index_of key (take j (keys_at bytes places))) (if bytes_eq key (key_at bytes place) then Some n else None)) count;
}
  where
    last : up_to_last buckets (bucket_of buckets key) (take is.before (keys_at bytes places)) ≡ suc j
    last = sym is.last ∙ up

    fits : suc j ≤ length (take is.before (keys_at bytes places))
    fits =
        let low = last_within buckets (bucket_of buckets key) (take is.before (keys_at bytes places)) in
        let e = last in omega (arith, low, e)

    below : suc j ≤ is.before
    below = let f = fits in omega (arith, f, length-take is.before (keys_at bytes places))

    count : length (take j (keys_at bytes places)) ≡ j
    count = let f = fits in omega (arith, f, length-take is.before (keys_at bytes places), length-take j (keys_at bytes places))

or_none : (o : Option ℕ) → option_or o None ≡ o
or_none None = refl
or_none (Some n) = refl

-- it is the one
pub turn_found : (bytes key : List ℕ) (places : List Place) (heads : List ℕ) (up_to j : ℕ) (place : Place) → IsKept bytes places heads
    → IsLeft (length heads) key (keys_at bytes places) up_to → up_to ≡ suc j → slice_get places j ≡ Some place → key_at bytes place ≡ key
    → Some j ≡ index_of key (keys_at bytes places)
turn_found bytes key places heads up_to j place kept is up at same =
    let now = turn bytes key places (length heads) up_to j place is up at in
    let absent : index_of key (take j (keys_at bytes places)) ≡ None = rw same at (kept.placed j place at).new in
    let eq : bytes_eq key (key_at bytes place) ≡ true = (bytes_eq-Decides key (key_at bytes place)).1 (sym same) in
    sym (now.left
    ∙ ap (λ o. option_or o (if bytes_eq key (key_at bytes place) then Some j else None)) absent
    ∙ ap (λ t. if t then Some j else None) eq)

-- or another one, and those before it are left
pub turn_on : (bytes key : List ℕ) (places : List Place) (heads : List ℕ) (up_to j : ℕ) (place : Place) → IsKept bytes places heads
    → IsLeft (length heads) key (keys_at bytes places) up_to → up_to ≡ suc j → slice_get places j ≡ Some place → key_at bytes place ≢ key
    → IsLeft (length heads) key (keys_at bytes places) place.previous
turn_on bytes key places heads up_to j place kept is up at differs =
    let now = turn bytes key places (length heads) up_to j place is up at in
    record {
      before = j;
      last = (kept.placed j place at).previous ∙ ap (λ bucket. up_to_last (length heads) bucket (take j (keys_at bytes places))) now.bucket;
      left = sym (now.left ∙ ap (λ t. option_or (index_of key (take j (keys_at bytes places))) (if t then Some j else None)) other
          ∙ or_none (index_of key (take j (keys_at bytes places))));
    }
  where
    other : bytes_eq key (key_at bytes place) ≡ false
    other = (elim (bytes_eq key (key_at bytes place)) as (λ t. bytes_eq key (key_at bytes place) ≡ t → t ≡ false) [
      | true ↦ λ e. absurd (differs (sym ((bytes_eq-Decides key (key_at bytes place)).0 e)))
      | false ↦ λ e. refl
    ]) refl

-- each turn goes back
pub turn_smaller : (bytes key : List ℕ) (places : List Place) (heads : List ℕ) (j : ℕ) (place : Place) → IsKept bytes places heads
    → slice_get places j ≡ Some place → place.previous ≤ j
turn_smaller bytes key places heads j place kept at =
    let is = kept.placed j place at in
    let low = last_within (length heads) (bucket_of (length heads) (key_at bytes place)) (take j (keys_at bytes places)) in
    let e = is.previous in
    omega (arith, low, e, length-take j (keys_at bytes places))

-- and at the end it is none
pub left_none : (bytes key : List ℕ) (places : List Place) (buckets up_to : ℕ) → IsLeft buckets key (keys_at bytes places) up_to → up_to ≡ 0
    → None ≡ index_of key (keys_at bytes places)
left_none bytes key places buckets up_to is none =
    ap (λ n. index_of key (take n (take is.before (keys_at bytes places)))) (sym (sym is.last ∙ none))
    ∙ up_to_last_is buckets key (take is.before (keys_at bytes places))
    ∙ is.left
