-- What cdb files answer.
use Rattle.std.proofs.Common.{◌≡◌, ◌||◌, ◌-◌, ◌++◌, ℕ, suc, Bool, true, false, nat_lt, List, [], ◌∷◌, Option, None, Some, refl, sym, ap, ◌∙◌, cond, length, lt-ltb, append_assoc, append-nil, arith, if◌then◌else◌}
use Rattle.std.proofs.lemmas.List.{length-append}
use Rattle.std.proofs.lemmas.Slice.Eq.{bytes_eq-Decides}
use Rattle.std.specs.List.{find, flat_map, list_any}
use Rattle.std.specs.Option.{option_map, option_or}
use Rattle.std.specs.Prelude.{slice_index}
use Rattle.std.specs.Str.{bytes_eq}
use Rattle.pf_base.specs.declared.pair.Pair.{Pair}
use Rattle.pf_asks.specs.Looking.{HasAll}
use Rattle.pf_asks.specs.declared.lookup.Found.TheVariants.{Value}
use Rattle.pf_cdb.specs.Asked as asked
use Rattle.pf_cdb.specs.Asked.{answer_of, ends_in_null, null, without_null}
use Rattle.pf_cdb.specs.Held.{elements_of}
use Rattle.pf_table.specs.Tables.{kept_key}
use Rattle.pf_maps.specs.Cdb.{Cdb, answered, cdb_meaning, found_as, values_of}

alike : (a b : List ℕ) → a ≡ b → bytes_eq a b ≡ true
alike a b e = (bytes_eq-Decides a b).1 e

or_left : (a b : Bool) → a ≡ true → (a || b) ≡ true
or_left true b e = refl
or_left false b e = cc

or_right : (a b : Bool) → b ≡ true → (a || b) ≡ true
or_right true b e = refl
or_right false b e = e

any_behind : (value : List ℕ) (xs ys : List (List ℕ)) → list_any (bytes_eq value) ys ≡ true → list_any (bytes_eq value) (xs ++ ys) ≡ true
any_behind value [] ys e = e
any_behind value (x ∷ xs) ys e = or_right (bytes_eq value x) (list_any (bytes_eq value) (xs ++ ys)) (any_behind value xs ys e)

-- a key with a null byte after it ends in one
last_null : (key : List ℕ) → slice_index (key ++ null ∷ []) (length key) ≡ null
last_null [] = refl
last_null (b ∷ key) = last_null key

keeps_null : (key : List ℕ) → ends_in_null (key ++ null ∷ []) ≡ true
unfolding ends_in_null
keeps_null key =
    let n : length (key ++ null ∷ []) ≡ suc (length key) = omega (arith, length-append key (null ∷ [])) in
    let m : suc (length key) - 1 ≡ length key = omega arith in
    let some : nat_lt 0 (suc (length key)) ≡ true = lt-ltb 0 (suc (length key)) (omega arith) in
    rw (n, some, m, last_null key) refl

-- the value of a pair is among those that it may give
own_among : (value : List ℕ) (pair : Pair) (rest : List (List ℕ)) → pair.value ≡ value → list_any (bytes_eq value) (values_of pair ++ rest) ≡ true
own_among value pair rest is = by (ends_in_null pair.key)
  where
    by : (t : Bool) → list_any (bytes_eq value) ((if t then pair.value ∷ without_null pair.value ∷ [] else pair.value ∷ []) ++ rest) ≡ true
    by true = or_left (bytes_eq value pair.value) _ (alike value pair.value (sym is))
    by false = or_left (bytes_eq value pair.value) _ (alike value pair.value (sym is))

-- and that value without its null byte, where the key ends in one
cut_among : (value : List ℕ) (pair : Pair) (rest : List (List ℕ)) → ends_in_null pair.key ≡ true → without_null pair.value ≡ value
    → list_any (bytes_eq value) (values_of pair ++ rest) ≡ true
cut_among value pair rest ends is = rw ends
    (or_right (bytes_eq value pair.value) _ (or_left (bytes_eq value (without_null pair.value)) _ (alike value (without_null pair.value) (sym is))))

-- the values of pairs that have a key
found_among : (key value : List ℕ) (cut : List ℕ → List ℕ)
    → ((pair : Pair) (rest : List (List ℕ)) → pair.key ≡ key → cut pair.value ≡ value → list_any (bytes_eq value) (values_of pair ++ rest) ≡ true)
    → (pairs : List Pair) → option_map cut (asked.value_of pairs key) ≡ Some value → list_any (bytes_eq value) (flat_map values_of pairs) ≡ true
found_among key value cut here [] is = cc
found_among key value cut here (pair ∷ pairs) is = by (bytes_eq pair.key key) refl (λ behind. found_among key value cut here pairs behind) is
  where
    by : (t : Bool) → bytes_eq pair.key key ≡ t
        → (option_map cut (asked.value_of pairs key) ≡ Some value → list_any (bytes_eq value) (flat_map values_of pairs) ≡ true)
        → option_map cut (option_map (λ p. p.value) (cond t (Some pair) (find (λ p. bytes_eq p.key key) pairs))) ≡ Some value
        → list_any (bytes_eq value) (values_of pair ++ flat_map values_of pairs) ≡ true
    by true same behind e =
        let cut_is : cut pair.value ≡ value = cc in
        here pair (flat_map values_of pairs) ((bytes_eq-Decides pair.key key).0 same) cut_is
    by false other behind e = any_behind value (values_of pair) (flat_map values_of pairs) (behind e)

-- a key that is answered
either_value : (a b : Option (List ℕ)) (value : List ℕ) (P : Type 0) → option_or a b ≡ Some value → (a ≡ Some value → P) → (b ≡ Some value → P) → P
either_value None b value P is f g = g is
either_value (Some x) b value P is f g = f is

as_it_is : (o : Option (List ℕ)) (value : List ℕ) → o ≡ Some value → option_map (λ v. v) o ≡ Some value
as_it_is None value is = cc
as_it_is (Some x) value is = is

found_value : (o : Option (List ℕ)) (value : List ℕ) → found_as o ≡ Value value → o ≡ Some value
found_value None value is = cc
found_value (Some x) value is = let e : x ≡ value = cc in ap Some e

among : (pairs : List Pair) (key value : List ℕ) → answer_of pairs key ≡ Some value → list_any (bytes_eq value) (flat_map values_of pairs) ≡ true
unfolding answer_of
among pairs key value is =
    either_value (asked.value_of pairs key) (option_map without_null (asked.value_of pairs (key ++ null ∷ []))) value _ is
    (λ own. found_among key value (λ v. v) (λ pair rest k v. own_among value pair rest v) pairs (as_it_is _ value own))
    (λ cut. found_among (key ++ null ∷ []) value without_null
    (λ pair rest k v. cut_among value pair rest (ap ends_in_null k ∙ keeps_null key) v) pairs cut)

-- a cdb table gives no value that is not among its results
pub cdb_has_all : (table : Cdb) → HasAll (cdb_meaning table)
cdb_has_all table key value is =
    let e : answered table key ≡ Value value = cc in
    among (elements_of table.file) (kept_key table.folds key) value (found_value _ value e)

-- the values of one pair more
pub values_next : (values : List (List ℕ)) (done : List Pair) (pair : Pair)
    → values ≡ flat_map values_of done → values ++ values_of pair ≡ flat_map values_of (done ++ pair ∷ [])
values_next values [] pair is = rw is (sym (append-nil (values_of pair)))
values_next values (first ∷ done) pair is =
    ap (λ xs. xs ++ values_of pair) is ∙ append_assoc (values_of first) (flat_map values_of done) (values_of pair)
    ∙ ap (λ xs. values_of first ++ xs) (values_next (flat_map values_of done) done pair refl)
