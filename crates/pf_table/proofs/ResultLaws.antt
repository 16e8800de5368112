-- No kind of table gives a value that is not among its results.
use Rattle.std.proofs.Common.{◌≡◌, ◌||◌, ℕ, Bool, true, false, List, [], ◌∷◌, Some, refl, sym, cond}
use Rattle.std.proofs.lemmas.Slice.Eq.{bytes_eq-Decides}
use Rattle.std.specs.List.{find, list_any}
use Rattle.std.specs.Prelude.{map}
use Rattle.std.specs.Str.{bytes_eq}
use Rattle.pf_base.specs.declared.pair.Pair.{Pair}
use Rattle.pf_asks.specs.declared.lookup.Found.TheVariants.{Value}
use Rattle.pf_asks.specs.Looking.{HasAll}
use Rattle.pf_table.specs.Tables.{Keyed, fail_meaning, found_as, found_in, keyed_meaning, kept_key, static_meaning}

alike : (a b : List ℕ) → a ≡ b → bytes_eq a b ≡ true
alike a b e = (bytes_eq-Decides a b).1 e

pub static_has_all : (value : List ℕ) → HasAll (static_meaning value)
static_has_all value key other is = let e : value ≡ other = cc in rw (alike other value (sym e)) refl

pub fail_has_all : HasAll fail_meaning
fail_has_all key value is = cc

-- a value that is found is the value of a pair
among : (pairs : List Pair) (key value : List ℕ) → found_in pairs key ≡ Value value → list_any (bytes_eq value) (map (λ pair. pair.value) pairs) ≡ true
among [] key value is = cc
among (pair ∷ pairs) key value is = by (bytes_eq key pair.key) (λ behind. among pairs key value behind) is
  where
    by : (t : Bool) → (found_in pairs key ≡ Value value → list_any (bytes_eq value) (map (λ pair. pair.value) pairs) ≡ true)
        → found_as (cond t (Some pair) (find (λ pair. bytes_eq key pair.key) pairs)) ≡ Value value
        → (bytes_eq value pair.value || list_any (bytes_eq value) (map (λ pair. pair.value) pairs)) ≡ true
    by true behind h = let e : pair.value ≡ value = cc in rw (alike value pair.value (sym e)) refl
    by false behind h = or_else (bytes_eq value pair.value) (list_any (bytes_eq value) (map (λ pair. pair.value) pairs)) (behind h)
      where
        or_else : (a b : Bool) → b ≡ true → (a || b) ≡ true
        or_else true b e = refl
        or_else false b e = e

pub keyed_has_all : (table : Keyed) → HasAll (keyed_meaning table)
keyed_has_all table key value is = let e : found_in table.pairs (kept_key table.folds key) ≡ Value value = cc in among table.pairs (kept_key table.folds key) value e
