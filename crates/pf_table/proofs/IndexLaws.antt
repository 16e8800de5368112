-- The chains of the keys of each bucket, and what they lead to.
use Rattle.std.proofs.Common.{◌≡◌, ◌<◌, ◌≤◌, ◌==◌, ◌++◌, ◌||◌, ℕ, zero, suc, Bool, true, false, List, [], ◌∷◌, Option, None, Some, is_some, length, take, set, refl, sym, ap, cond, if◌then◌else◌, arith}
use Rattle.std.proofs.lemmas.Bool.{eq-eqb, eqb-true}
use Rattle.std.proofs.lemmas.List.{length-map}
use Rattle.std.proofs.lemmas.Slice.Eq.{bytes_eq-Decides}
use Rattle.std.specs.List.{find}
use Rattle.std.specs.Option.{option_map, option_or}
use Rattle.std.specs.Prelude.{slice_get}
use Rattle.std.specs.Str.{bytes_eq}
use Rattle.pf_base.specs.declared.pair.Pair.{Pair}
use Rattle.pf_table.specs.Clauses.Keeping.{bucket_of, index_of, keys_of, or_first, up_to_last}
use Rattle.pf_asks.specs.declared.lookup.Found.TheVariants.{Absent, Value}
use Rattle.pf_table.specs.Pairs.{counting, has_key, with_pair}
use Rattle.pf_table.specs.Tables.{found_in}
use Rattle.pf_table.specs.declared.pairs.Repeats.{Repeats}
use Rattle.pf_table.specs.declared.pairs.Repeats.TheVariants.{First, Last}

same : (a b : List ℕ) → bytes_eq a b ≡ true → a ≡ b
same a b h = (bytes_eq-Decides a b).0 h

alike : (a b : List ℕ) → a ≡ b → bytes_eq a b ≡ true
alike a b e = (bytes_eq-Decides a b).1 e

-- the last key of a bucket is one of the keys
pub last_within : (buckets bucket : ℕ) (keys : List (List ℕ)) → up_to_last buckets bucket keys ≤ length keys
last_within buckets bucket [] = omega arith
last_within buckets bucket (key ∷ keys) = by (up_to_last buckets bucket keys) (bucket_of buckets key == bucket) (last_within buckets bucket keys)
  where
    by : (n : ℕ) (here : Bool) → n ≤ length keys → or_first n here ≤ suc (length keys)
    by zero true h = omega arith
    by zero false h = omega arith
    by (suc n) here h = omega arith

-- one key more
pub last_push : (buckets bucket : ℕ) (keys : List (List ℕ)) (key : List ℕ)
    → up_to_last buckets bucket (keys ++ key ∷ []) ≡ (if bucket_of buckets key == bucket then suc (length keys) else up_to_last buckets bucket keys)
last_push buckets bucket [] key = refl
last_push buckets bucket (first ∷ keys) key =
    by (up_to_last buckets bucket (keys ++ key ∷ [])) (bucket_of buckets key == bucket) (up_to_last buckets bucket keys) (bucket_of buckets first == bucket)
    (last_push buckets bucket keys key)
  where
    by : (m : ℕ) (t : Bool) (n : ℕ) (here : Bool) → m ≡ (if t then suc (length keys) else n)
        → or_first m here ≡ (if t then suc (suc (length keys)) else or_first n here)
    by m true n here e = rw e refl
    by m false n here e = rw e refl

-- after the last key of its bucket no key is this one
pub up_to_last_is : (buckets : ℕ) (key : List ℕ) (keys : List (List ℕ))
    → index_of key (take (up_to_last buckets (bucket_of buckets key) keys) keys) ≡ index_of key keys
up_to_last_is buckets key [] = refl
up_to_last_is buckets key (first ∷ keys) =
    by (up_to_last buckets (bucket_of buckets key) keys) (bucket_of buckets first == bucket_of buckets key) refl (up_to_last_is buckets key keys)
  where
    other : (bucket_of buckets first == bucket_of buckets key) ≡ false → bytes_eq key first ≡ false
    other h = (elim (bytes_eq key first) as (λ t. bytes_eq key first ≡ t → t ≡ false) [
      | true ↦ λ e. let t : (bucket_of buckets first == bucket_of buckets key) ≡ true
          = eq-eqb (bucket_of buckets first) (bucket_of buckets key) (ap (bucket_of buckets) (sym (same key first e))) in cc
      | false ↦ λ e. refl
    ]) refl

    by : (n : ℕ) (here : Bool) → (bucket_of buckets first == bucket_of buckets key) ≡ here → index_of key (take n keys) ≡ index_of key keys
        → index_of key (take (or_first n here) (first ∷ keys)) ≡ index_of key (first ∷ keys)
    by zero true h e = ap (λ o. if bytes_eq key first then Some 0 else option_map (λ n. suc n) o) e
    by zero false h e = rw (other h) (ap (option_map (λ n. suc n)) e)
    by (suc n) here h e = ap (λ o. if bytes_eq key first then Some 0 else option_map (λ n. suc n) o) e

-- the last key of a bucket is in it
pub last_in_bucket : (buckets bucket : ℕ) (keys : List (List ℕ)) (j : ℕ) (key : List ℕ) → up_to_last buckets bucket keys ≡ suc j → slice_get keys j ≡ Some key
    → bucket_of buckets key ≡ bucket
last_in_bucket buckets bucket [] j key is at = cc
last_in_bucket buckets bucket (first ∷ keys) j key is at =
    by (up_to_last buckets bucket keys) (bucket_of buckets first == bucket) refl refl (λ k e a. last_in_bucket buckets bucket keys k key e a) j is at
  where
    by : (n : ℕ) (here : Bool) → up_to_last buckets bucket keys ≡ n → (bucket_of buckets first == bucket) ≡ here
        → ((k : ℕ) → up_to_last buckets bucket keys ≡ suc k → slice_get keys k ≡ Some key → bucket_of buckets key ≡ bucket)
        → (j : ℕ) → or_first n here ≡ suc j → slice_get (first ∷ keys) j ≡ Some key → bucket_of buckets key ≡ bucket
    by zero true eu h behind zero is at = let e : first ≡ key = cc in rw (← e) (eqb-true _ _ h)
    by zero true eu h behind (suc j) is at = absurd (omega arith)
    by zero false eu h behind j is at = absurd (omega arith)
    by (suc n) here eu h behind zero is at = absurd (omega arith)
    by (suc n) here eu h behind (suc j) is at = let e : up_to_last buckets bucket keys ≡ suc j = omega arith in behind j e at

-- a key among one more
pub index_push : (key : List ℕ) (keys : List (List ℕ)) (other : List ℕ)
    → index_of key (keys ++ other ∷ []) ≡ option_or (index_of key keys) (if bytes_eq key other then Some (length keys) else None)
index_push key [] other = refl
index_push key (first ∷ keys) other = by (bytes_eq key first) (index_of key (keys ++ other ∷ [])) (index_of key keys) (bytes_eq key other) (index_push key keys other)
  where
    by : (s : Bool) (more o : Option ℕ) (t : Bool) → more ≡ option_or o (if t then Some (length keys) else None)
        → (if s then Some 0 else option_map (λ n. suc n) more)
        ≡ option_or (if s then Some 0 else option_map (λ n. suc n) o) (if t then Some (suc (length keys)) else None)
    by true more o t e = refl
    by false more None true e = rw e refl
    by false more None false e = rw e refl
    by false more (Some i) t e = rw e refl

pub index_within : (key : List ℕ) (keys : List (List ℕ)) (i : ℕ) → index_of key keys ≡ Some i → i < length keys
index_within key [] i is = cc
index_within key (first ∷ keys) i is = by (bytes_eq key first) (index_of key keys) (λ j e. index_within key keys j e) is
  where
    by : (t : Bool) (o : Option ℕ) → ((j : ℕ) → o ≡ Some j → j < length keys) → (if t then Some 0 else option_map (λ n. suc n) o) ≡ Some i → i < suc (length keys)
    by true o behind is = let e : 0 ≡ i = cc in omega arith
    by false None behind is = cc
    by false (Some j) behind is = let e : suc j ≡ i = cc in let low = behind j refl in omega arith

-- a key is there
pub has_index : (pairs : List Pair) (key : List ℕ) → has_key pairs key ≡ is_some (index_of key (keys_of pairs))
has_index [] key = refl
has_index (pair ∷ pairs) key = by (bytes_eq key pair.key) (has_key pairs key) (index_of key (keys_of pairs)) (has_index pairs key)
  where
    by : (t h : Bool) (o : Option ℕ) → h ≡ is_some o → (t || h) ≡ is_some (if t then Some 0 else option_map (λ n. suc n) o)
    by true h o e = refl
    by false h None e = e
    by false h (Some i) e = e

-- the pair of a key
pub found_index : (pairs : List Pair) (key : List ℕ) (i : ℕ) → index_of key (keys_of pairs) ≡ Some i → find (λ pair. bytes_eq key pair.key) pairs ≡ slice_get pairs i
found_index [] key i is = cc
found_index (pair ∷ pairs) key i is = by (bytes_eq key pair.key) (index_of key (keys_of pairs)) (λ j e. found_index pairs key j e) i is
  where
    by : (t : Bool) (o : Option ℕ) → ((j : ℕ) → o ≡ Some j → find (λ one. bytes_eq key one.key) pairs ≡ slice_get pairs j) → (i : ℕ)
        → (if t then Some 0 else option_map (λ n. suc n) o) ≡ Some i → cond t (Some pair) (find (λ one. bytes_eq key one.key) pairs) ≡ slice_get (pair ∷ pairs) i
    by true o behind zero is = refl
    by true o behind (suc i) is = cc
    by false None behind i is = cc
    by false (Some j) behind zero is = cc
    by false (Some j) behind (suc i) is = let e : j ≡ i = cc in behind i (ap Some e)

pub no_index : (pairs : List Pair) (key : List ℕ) → index_of key (keys_of pairs) ≡ None → find (λ pair. bytes_eq key pair.key) pairs ≡ None
no_index [] key is = refl
no_index (pair ∷ pairs) key is = by (bytes_eq key pair.key) (index_of key (keys_of pairs)) (λ e. no_index pairs key e) is
  where
    by : (t : Bool) (o : Option ℕ) → (o ≡ None → find (λ one. bytes_eq key one.key) pairs ≡ None) → (if t then Some 0 else option_map (λ n. suc n) o) ≡ None
        → cond t (Some pair) (find (λ one. bytes_eq key one.key) pairs) ≡ None
    by true o behind is = cc
    by false None behind is = behind refl
    by false (Some j) behind is = cc

-- a pair whose key is new comes after the others
pub push_is : (repeats : Repeats) (pairs : List Pair) (other : Pair) → index_of other.key (keys_of pairs) ≡ None → with_pair repeats pairs other ≡ pairs ++ other ∷ []
push_is repeats [] other is = refl
push_is repeats (pair ∷ pairs) other is = by (bytes_eq other.key pair.key) (index_of other.key (keys_of pairs)) (λ e. push_is repeats pairs other e) is
  where
    by : (t : Bool) (o : Option ℕ) → (o ≡ None → with_pair repeats pairs other ≡ pairs ++ other ∷ []) → (if t then Some 0 else option_map (λ n. suc n) o) ≡ None
        → (if t then counting repeats pair other ∷ pairs else pair ∷ with_pair repeats pairs other) ≡ pair ∷ (pairs ++ other ∷ [])
    by true o behind is = cc
    by false None behind is = ap (λ more. pair ∷ more) (behind refl)
    by false (Some j) behind is = cc

-- where the key is there, the first pair stays
pub first_stays : (pairs : List Pair) (other : Pair) (i : ℕ) → index_of other.key (keys_of pairs) ≡ Some i → with_pair First pairs other ≡ pairs
first_stays [] other i is = cc
first_stays (pair ∷ pairs) other i is = by (bytes_eq other.key pair.key) (index_of other.key (keys_of pairs)) (λ j e. first_stays pairs other j e) is
  where
    by : (t : Bool) (o : Option ℕ) → ((j : ℕ) → o ≡ Some j → with_pair First pairs other ≡ pairs) → (if t then Some 0 else option_map (λ n. suc n) o) ≡ Some i
        → (if t then pair ∷ pairs else pair ∷ with_pair First pairs other) ≡ pair ∷ pairs
    by true o behind is = refl
    by false None behind is = cc
    by false (Some j) behind is = ap (λ more. pair ∷ more) (behind j refl)

-- or the last comes in its place
pub last_replaces : (pairs : List Pair) (other : Pair) (i : ℕ) → index_of other.key (keys_of pairs) ≡ Some i → with_pair Last pairs other ≡ set pairs i other
last_replaces [] other i is = cc
last_replaces (pair ∷ pairs) other i is =
    by (bytes_eq other.key pair.key) (index_of other.key (keys_of pairs)) refl (λ j e. last_replaces pairs other j e) i is
  where
    by : (t : Bool) (o : Option ℕ) → bytes_eq other.key pair.key ≡ t → ((j : ℕ) → o ≡ Some j → with_pair Last pairs other ≡ set pairs j other) → (i : ℕ)
        → (if t then Some 0 else option_map (λ n. suc n) o) ≡ Some i
        → (if t then counting Last pair other ∷ pairs else pair ∷ with_pair Last pairs other) ≡ set (pair ∷ pairs) i other
    by true o h behind zero is = ap (λ key. record { key = key; value = other.value } ∷ pairs) (sym (same other.key pair.key h))
    by true o h behind (suc i) is = cc
    by false None h behind i is = cc
    by false (Some j) h behind zero is = cc
    by false (Some j) h behind (suc i) is = let e : j ≡ i = cc in ap (λ more. pair ∷ more) (behind i (ap Some e))

-- and the keys stay
pub keys_stay : (keys : List (List ℕ)) (key : List ℕ) (i : ℕ) → index_of key keys ≡ Some i → set keys i key ≡ keys
keys_stay [] key i is = cc
keys_stay (first ∷ keys) key i is = by (bytes_eq key first) (index_of key keys) refl (λ j e. keys_stay keys key j e) i is
  where
    by : (t : Bool) (o : Option ℕ) → bytes_eq key first ≡ t → ((j : ℕ) → o ≡ Some j → set keys j key ≡ keys) → (i : ℕ)
        → (if t then Some 0 else option_map (λ n. suc n) o) ≡ Some i → set (first ∷ keys) i key ≡ first ∷ keys
    by true o h behind zero is = ap (λ one. one ∷ keys) (same key first h)
    by true o h behind (suc i) is = cc
    by false None h behind i is = cc
    by false (Some j) h behind zero is = cc
    by false (Some j) h behind (suc i) is = let e : j ≡ i = cc in ap (λ more. first ∷ more) (behind i (ap Some e))

-- the index of a key is below the number of pairs
pub index_below : (pairs : List Pair) (key : List ℕ) (i : ℕ) → index_of key (keys_of pairs) ≡ Some i → i < length pairs
index_below pairs key i is = let low = index_within key (keys_of pairs) i is in omega (arith, low, length-map pairs (λ (pair : Pair). pair.key))

-- what is found
pub found_some : (pairs : List Pair) (key : List ℕ) (i : ℕ) (pair : Pair) (value : List ℕ) → index_of key (keys_of pairs) ≡ Some i → slice_get pairs i ≡ Some pair
    → value ≡ pair.value → Value value ≡ found_in pairs key
found_some pairs key i pair value is at same = rw (found_index pairs key i is, at, same) refl

pub found_none : (pairs : List Pair) (key : List ℕ) → index_of key (keys_of pairs) ≡ None → Absent ≡ found_in pairs key
found_none pairs key is = rw (no_index pairs key is) refl
