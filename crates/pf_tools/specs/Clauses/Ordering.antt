-- Names that are put in order one after the other, which gives the names in order. Words of the code's contracts, with their law.
use Rattle.std.specs.Prelude.{◌≡◌, ℕ, ◌||◌, Bool, true, false, List, [], ◌∷◌}
use Rattle.std.proofs.Common.{refl, sym, ap, ◌∙◌}
use Rattle.std.proofs.lemmas.Map.Lookups.{exact_bytes}
use Rattle.std.specs.BTreeSet.{insert_key}
use Rattle.std.specs.Cmp.Lexicographic.{nat_list_cmp_total, slice_cmp}
use Rattle.std.specs.List.{AllByRecursion, fold}
use Rattle.std.specs.List.Sorted.{IsStrictlySortedBy}
use Rattle.std.specs.Ordering.{match_ordering, nat_cmp, ordering_reverse}
use Rattle.std.specs.Str.{bytes_eq}
use Rattle.std.specs.declared.cmp.Ordering.{Ordering}
use Rattle.std.specs.declared.cmp.Ordering.TheVariants.{Less, Equal, Greater}
use Rattle.pf_tools.specs.Order.{InOrder, IsInOrder, has}

-- names with one more at its place; one that is there comes no second time
abbrev pub with_name : List (List ℕ) → List ℕ → List (List ℕ)
with_name names name = insert_key (slice_cmp nat_cmp) names name

-- a name is less than each of these
abbrev IsBelow : List ℕ → List (List ℕ) → Type 0
IsBelow name names = AllByRecursion (λ other. slice_cmp nat_cmp name other ≡ Less) names

below_with : (first : List ℕ) (names : List (List ℕ)) (name : List ℕ) → slice_cmp nat_cmp first name ≡ Less → IsBelow first names → IsBelow first (with_name names name)
below_with first [] name less below = (less, tt)
below_with first (other ∷ names) name less below = by_how (slice_cmp nat_cmp name other) (below_with first names name less below.1) where
  by_how : (how : Ordering) → IsBelow first (with_name names name)
      → IsBelow first (match_ordering how (name ∷ other ∷ names) (other ∷ names) (other ∷ with_name names name))
  by_how Less more = (less, below)
  by_how Equal more = below
  by_how Greater more = (below.0, more)

below_more : (first other : List ℕ) (names : List (List ℕ)) → slice_cmp nat_cmp first other ≡ Less → IsBelow other names → IsBelow first names
below_more first other [] less below = tt
below_more first other (name ∷ names) less below = (nat_list_cmp_total.trans first other name less below.0, below_more first other names less below.1)

ascends_with : (names : List (List ℕ)) (name : List ℕ) → IsStrictlySortedBy (slice_cmp nat_cmp) names → IsStrictlySortedBy (slice_cmp nat_cmp) (with_name names name)
unfolding IsStrictlySortedBy
ascends_with [] name up = (tt, tt)
ascends_with (other ∷ names) name up = by_how (slice_cmp nat_cmp name other) refl (ascends_with names name up.1) where
  by_how : (how : Ordering) → slice_cmp nat_cmp name other ≡ how → IsStrictlySortedBy (slice_cmp nat_cmp) (with_name names name)
      → IsStrictlySortedBy (slice_cmp nat_cmp) (match_ordering how (name ∷ other ∷ names) (other ∷ names) (other ∷ with_name names name))
  by_how Less is more = ((is, below_more name other names is up.0), up)
  by_how Equal is more = up
  by_how Greater is more = (below_with other names name (nat_list_cmp_total.antisymm other name ∙ ap ordering_reverse is) up.0, more)

ascends_all : (old names : List (List ℕ)) → IsStrictlySortedBy (slice_cmp nat_cmp) old → IsStrictlySortedBy (slice_cmp nat_cmp) (fold with_name old names)
ascends_all old [] up = up
ascends_all old (name ∷ names) up = ascends_all (with_name old name) names (ascends_with old name up)

none_ascends : IsStrictlySortedBy {K = List ℕ} (slice_cmp nat_cmp) []
unfolding IsStrictlySortedBy
none_ascends = tt

-- the names that were there, and the one more
or_none : (a : Bool) → (a || false) ≡ a
or_none true = refl
or_none false = refl

or_turned : (a b : Bool) → (a || b) ≡ (b || a)
or_turned true true = refl
or_turned true false = refl
or_turned false b = sym (or_none b)

or_parted : (a b c : Bool) → ((a || b) || c) ≡ (a || (b || c))
or_parted true b c = refl
or_parted false b c = refl

or_same : (a b c : Bool) → c ≡ a → (a || b) ≡ ((a || b) || c)
or_same true b c is = refl
or_same false b c is = sym (ap (λ x. b || x) is ∙ or_none b)

has_with : (names : List (List ℕ)) (name asked : List ℕ) → has (with_name names name) asked ≡ (has names asked || bytes_eq asked name)
has_with [] name asked = or_none (bytes_eq asked name)
has_with (other ∷ names) name asked = by_how (slice_cmp nat_cmp name other) refl (has_with names name asked) where
  by_how : (how : Ordering) → slice_cmp nat_cmp name other ≡ how → has (with_name names name) asked ≡ (has names asked || bytes_eq asked name)
      → has (match_ordering how (name ∷ other ∷ names) (other ∷ names) (other ∷ with_name names name)) asked
      ≡ ((bytes_eq asked other || has names asked) || bytes_eq asked name)
  by_how Less is more = or_turned (bytes_eq asked name) (bytes_eq asked other || has names asked)
  by_how Equal is more = or_same (bytes_eq asked other) (has names asked) (bytes_eq asked name) (ap (bytes_eq asked) (exact_bytes name other is))
  by_how Greater is more = ap (λ b. bytes_eq asked other || b) more ∙ sym (or_parted (bytes_eq asked other) (has names asked) (bytes_eq asked name))

has_all : (old names : List (List ℕ)) (asked : List ℕ) → has (fold with_name old names) asked ≡ (has old asked || has names asked)
has_all old [] asked = sym (or_none (has old asked))
has_all old (name ∷ names) asked =
    has_all (with_name old name) names asked ∙ ap (λ b. b || has names asked) (has_with old name asked)
    ∙ or_parted (has old asked) (bytes_eq asked name) (has names asked)

-- all of them, which is the names in order
pub put_in_order : (names : List (List ℕ)) → IsInOrder names (fold with_name [] names)
put_in_order names = record { ascends = ascends_all [] names none_ascends; same = has_all [] names }

abbrev pub in_order : (names : List (List ℕ)) → InOrder names
in_order names = record { list = fold with_name [] names; is = put_in_order names }
