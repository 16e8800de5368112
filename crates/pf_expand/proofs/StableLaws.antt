-- Where a level changes no size, further levels change no value.
use Rattle.std.proofs.Common.{◌≡◌, ℕ, ◌+◌, ◌-◌, ◌≤◌, zero, suc, List, Ok, Err, Option, None, Some, refl, sym, ap, ◌∙◌, arith}
use Rattle.std.proofs.Math.Path.{fun_ext}
use Rattle.pf_expand.proofs.LevelLaws.{level_limit, level_more}
use Rattle.pf_expand.proofs.ValueLaws.{flawed_limit}
use Rattle.pf_expand.specs.Expansion.{Answer, within_limit}
use Rattle.pf_expand.specs.Clauses.Levels.{AreSizes, size_at, size_named}
use Rattle.pf_expand.specs.Clauses.Meanings.{Kept, level_value, meaning_of, meaning_value, place_in}
use Rattle.pf_expand.specs.Clauses.Sizes.{size_of}
use Rattle.pf_expand.specs.declared.lengths.Sizes.{Sizes}

-- a value that is kept where it is there, and has the same size, is the same
same_value : (x y : Answer) → within_limit y ≡ y → ((bytes : List ℕ) → x ≡ Ok bytes → y ≡ Ok bytes) → size_of x ≡ size_of y → y ≡ x
same_value (Ok bytes) y limited more same = more bytes refl
same_value (Err flaw) y limited more same = sym limited ∙ flawed_limit y flaw same

-- one level more changes no value
same_values : (names : List (List ℕ × Kept)) (n : ℕ) → ((name : List ℕ) → size_of (level_value names n name) ≡ size_of (level_value names (suc n) name))
    → level_value names (suc n) ≡ level_value names n
same_values names n same = fun_ext (λ name. same_value (level_value names n name) (level_value names (suc n) name) (level_limit names (suc n) name) (level_more names n name) (same name))

-- so no number of levels more does
values_stay : (names : List (List ℕ × Kept)) (n k : ℕ) → level_value names (suc n) ≡ level_value names n → level_value names (n + k) ≡ level_value names n
unfolding level_value
values_stay names n zero same = ap (level_value names) (none n) where
  none : (n : ℕ) → n + 0 ≡ n
  none n = omega arith
values_stay names n (suc k) same =
    ap (level_value names) (one n k) ∙ fun_ext (λ name. ap (λ v. meaning_value v (meaning_of names name)) (values_stay names n k same)) ∙ same
  where
    one : (n k : ℕ) → n + suc k ≡ suc (n + k)
    one n k = omega arith

-- the sizes with one level more are the same
sizes_alike : (names : List (List ℕ × Kept)) (sizes next : Sizes) → next.named ≡ sizes.named → next.absent ≡ sizes.absent
    → (name : List ℕ) → size_named names next name ≡ size_named names sizes name
sizes_alike names sizes next named absent name = at_place (place_in names name) where
  at_place : (x : Option ℕ) → size_at next x ≡ size_at sizes x
  at_place None = absent
  at_place (Some place) = rw (named, absent) refl

-- so they are the sizes with any number of levels more
pub sizes_stay : (names : List (List ℕ × Kept)) (sizes next last : Sizes) → AreSizes names sizes → AreSizes names next → next.levels ≡ sizes.levels + 1
    → next.named ≡ sizes.named → next.absent ≡ sizes.absent → sizes.levels ≤ last.levels → last.named ≡ next.named → last.absent ≡ next.absent
    → AreSizes names last
sizes_stay names sizes next last are next_are levels named absent up last_named last_absent name =
    let n = sizes.levels in
    let more = λ (name : List ℕ). sym (are name) ∙ sym (sizes_alike names sizes next named absent name) ∙ next_are name ∙ ap (λ m. size_of (level_value names m name)) (levels ∙ one n) in
    let stay = values_stay names n (last.levels - n) (same_values names n more) in
    sizes_alike names next last last_named last_absent name ∙ sizes_alike names sizes next named absent name ∙ are name
    ∙ ap (λ v. size_of (v name)) (sym stay ∙ ap (level_value names) (whole n last.levels up))
  where
    one : (n : ℕ) → n + 1 ≡ suc n
    one n = omega arith

    whole : (n m : ℕ) → n ≤ m → n + (m - n) ≡ m
    whole n m h = omega (arith, h)
