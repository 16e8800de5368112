-- Names in the order of their bytes, each once. By no standard.
use Rattle.std.specs.Prelude.{◌≡◌, ℕ, Bool, List}
use Rattle.std.specs.Cmp.Lexicographic.{slice_cmp}
use Rattle.std.specs.List.{list_any}
use Rattle.std.specs.List.Sorted.{IsStrictlySortedBy}
use Rattle.std.specs.Ordering.{nat_cmp}
use Rattle.std.specs.Str.{bytes_eq}

-- a name is one of these
abbrev pub has : List (List ℕ) → List ℕ → Bool
has names name = list_any (bytes_eq name) names

-- they ascend strictly, and are the same names
pub record IsInOrder (names ordered : List (List ℕ)) : Type 0 where
  pub ascends : IsStrictlySortedBy (slice_cmp nat_cmp) ordered
  pub same : (name : List ℕ) → has ordered name ≡ has names name

-- the names in order: there is just one such list
pub record InOrder (names : List (List ℕ)) : Type 0 where
  pub list : List (List ℕ)
  pub is : IsInOrder names list
