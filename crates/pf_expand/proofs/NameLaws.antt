-- Names with what they stand for, once one of them was set.
use Rattle.std.proofs.Common.{◌≡◌, ℕ, Bool, true, false, List, [], ◌∷◌, Option, Some, refl, sym, ap, ◌∙◌, cond, if◌then◌else◌}
use Rattle.indexmap.specs.IndexMap.{insert_entry}
use Rattle.std.proofs.lemmas.Slice.Eq.{bytes_eq-Decides}
use Rattle.std.specs.Map.{lookup}
use Rattle.std.specs.Option.{unwrap_or}
use Rattle.std.specs.Str.{bytes_eq}
use Rattle.pf_base.specs.declared.meaning.Meaning.TheVariants.{Is}
use Rattle.pf_expand.specs.Expansion.{parts}
use Rattle.pf_expand.specs.Clauses.Meanings.{AreNames, Kept, meaning_of, kept, with_meaning}
use Rattle.pf_base.specs.Meanings.{Source}
use Rattle.pf_expand.specs.Names.{with_source}

-- none was set
pub none_set : (none : List (List ℕ × Kept)) → none ≡ [] → AreNames none (λ name. Is [])
unfolding parts
none_set none empty name = ap (λ xs. meaning_of xs name) empty

same : (a b : List ℕ) → bytes_eq a b ≡ true → a ≡ b
same a b h = (bytes_eq-Decides a b).0 h

alike : (a b : List ℕ) → a ≡ b → bytes_eq a b ≡ true
alike a b e = (bytes_eq-Decides a b).1 e

-- what a name means once one was set
lookup_set : (names : List (List ℕ × Kept)) (set name : List ℕ) (m : Kept)
    → lookup (bytes_eq name) (insert_entry bytes_eq names set m) ≡ cond (bytes_eq name set) (Some m) (lookup (bytes_eq name) names)
lookup_set [] set name m = refl
lookup_set (entry ∷ names) set name m =
    (elim (bytes_eq set entry.0) as (λ t. bytes_eq set entry.0 ≡ t
    → lookup (bytes_eq name) (if t then (entry.0, m) ∷ names else entry ∷ insert_entry bytes_eq names set m) ≡ cond (bytes_eq name set) (Some m) (lookup (bytes_eq name) (entry ∷ names))) [
      | true ↦ λ is.
          let key = same set entry.0 is in
          ap (λ k. cond (bytes_eq name k) (Some m) (lookup (bytes_eq name) names)) (sym key)
          ∙ either (bytes_eq name set) (Some m) (lookup (bytes_eq name) names) (cond (bytes_eq name entry.0) (Some entry.1) (lookup (bytes_eq name) names))
          (λ other. ap (λ t. cond t (Some entry.1) (lookup (bytes_eq name) names)) (ap (bytes_eq name) (sym key) ∙ other))
      | false ↦ λ is. ap (cond (bytes_eq name entry.0) (Some entry.1)) (lookup_set names set name m) ∙ apart is
    ]) refl
  where
    either : {A : Type 0} (t : Bool) (x y z : Option A) → (t ≡ false → z ≡ y) → cond t x y ≡ cond t x z
    either true x y z h = refl
    either false x y z h = sym (h refl)

    apart : bytes_eq set entry.0 ≡ false
        → cond (bytes_eq name entry.0) (Some entry.1) (cond (bytes_eq name set) (Some m) (lookup (bytes_eq name) names))
        ≡ cond (bytes_eq name set) (Some m) (cond (bytes_eq name entry.0) (Some entry.1) (lookup (bytes_eq name) names))
    apart differ =
        (elim (bytes_eq name entry.0) as (λ t. bytes_eq name entry.0 ≡ t
        → cond t (Some entry.1) (cond (bytes_eq name set) (Some m) (lookup (bytes_eq name) names)) ≡ cond (bytes_eq name set) (Some m) (cond t (Some entry.1) (lookup (bytes_eq name) names))) [
          | true ↦ λ key_is. sym (ap (λ t. cond t (Some m) (Some entry.1)) (not_set key_is))
          | false ↦ λ _. refl
        ]) refl
      where
        not_set : bytes_eq name entry.0 ≡ true → bytes_eq name set ≡ false
        not_set key_is = (elim (bytes_eq name set) as (λ t. bytes_eq name set ≡ t → t ≡ false) [
          | true ↦ λ both. let e : bytes_eq set entry.0 ≡ true = alike set entry.0 (sym (same name set both) ∙ same name entry.0 key_is) in cc
          | false ↦ λ _. refl
        ]) refl

meaning_set : (names : List (List ℕ × Kept)) (set name : List ℕ) (m : Kept)
    → meaning_of (with_meaning names set m) name ≡ (if bytes_eq name set then m else meaning_of names name)
meaning_set names set name m = ap (λ x. unwrap_or x (Is (Some []))) (lookup_set names set name m) ∙ by_test (bytes_eq name set) where
  by_test : (t : Bool) → unwrap_or (cond t (Some m) (lookup (bytes_eq name) names)) (Is (Some [])) ≡ (if t then m else meaning_of names name)
  by_test true = refl
  by_test false = refl

turned : (a b : List ℕ) → bytes_eq a b ≡ bytes_eq b a
turned a b = by_tests (bytes_eq a b) (bytes_eq b a) refl refl where
  by_tests : (s t : Bool) → bytes_eq a b ≡ s → bytes_eq b a ≡ t → s ≡ t
  by_tests true true p q = refl
  by_tests true false p q = let e : bytes_eq b a ≡ true = alike b a (sym (same a b p)) in cc
  by_tests false true p q = let e : bytes_eq a b ≡ true = alike a b (sym (same b a q)) in cc
  by_tests false false p q = refl

-- one more was set
pub name_set : (names new : List (List ℕ × Kept)) (set : List ℕ) (s : Source) (sources : List ℕ → Source) → new ≡ with_meaning names set (kept s)
    → AreNames names sources → AreNames new (with_source sources set s)
name_set names new set s sources is are name =
    ap (λ xs. meaning_of xs name) is ∙ meaning_set names set name (kept s)
    ∙ ap (λ t. if t then kept s else meaning_of names name) (turned name set)
    ∙ by_test (bytes_eq set name)
  where
    by_test : (t : Bool) → (if t then kept s else meaning_of names name) ≡ kept (if t then s else sources name)
    by_test true = refl
    by_test false = are name
