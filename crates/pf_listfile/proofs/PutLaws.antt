-- What a map by texts has after one of them was put.
use Rattle.std.proofs.Common.{◌≡◌, ℕ, Bool, true, false, List, Some, refl, sym, subst, ◌∙◌, ap}
use Rattle.std.proofs.lemmas.Slice.Eq.{bytes_eq-Decides}
use Rattle.std.specs.Map.{KeepsOthers, lookup}
use Rattle.std.specs.Prelude.{if◌then◌else◌}
use Rattle.std.specs.Str.{bytes_eq}

module _ {K : Type 0} (text : K → List ℕ) where
  -- a key has this text
  abbrev pub has_own : List ℕ → K → Bool
  has_own asked key = bytes_eq asked (text key)

  apart : (set asked : List ℕ) (key : K) → bytes_eq set asked ≡ false → has_own set key ≡ true → has_own asked key ≡ false
  apart set asked key differ same = by_test (bytes_eq asked (text key)) refl where
    by_test : (t : Bool) → bytes_eq asked (text key) ≡ t → has_own asked key ≡ false
    by_test false e = e
    by_test true e =
        let set_is = (bytes_eq-Decides set (text key)).0 same in
        let both : bytes_eq set asked ≡ true = (bytes_eq-Decides set asked).1 (set_is ∙ sym ((bytes_eq-Decides asked (text key)).0 e)) in cc

  finds_one : (asked : List ℕ) (x y : K) → has_own asked x ≡ true → has_own asked y ≡ bytes_eq (text x) (text y)
  finds_one asked x y same = ap (λ t. bytes_eq t (text y)) ((bytes_eq-Decides asked (text x)).0 same)

  module _ {X : Type 0} (old new : List (K × X)) (set : List ℕ) (keeps : KeepsOthers (λ x y. bytes_eq (text x) (text y)) (has_own set) old new) where
    others : (asked : List ℕ) → bytes_eq set asked ≡ false → lookup (has_own asked) new ≡ lookup (has_own asked) old
    unfolding KeepsOthers
    others asked differ = keeps (has_own asked) (λ x y. finds_one asked x y) (λ key. apart set asked key differ)

    -- what is found after a text was put
    pub put_text : (w : X) → lookup (has_own set) new ≡ Some w → (asked : List ℕ)
        → lookup (has_own asked) new ≡ (if bytes_eq set asked then Some w else lookup (has_own asked) old)
    put_text w here asked = by_test (bytes_eq set asked) refl where
      by_test : (t : Bool) → bytes_eq set asked ≡ t → lookup (has_own asked) new ≡ (if t then Some w else lookup (has_own asked) old)
      by_test true same = subst (λ s. lookup (has_own s) new ≡ Some w) ((bytes_eq-Decides set asked).0 same) here
      by_test false differ = others asked differ
