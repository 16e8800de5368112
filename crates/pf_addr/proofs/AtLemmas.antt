-- The place after the last at sign.
use Rattle.std.proofs.Common.{◌≡◌, ℕ, Bool, suc, ◌+◌, ◌-◌, ◌<◌, ◌≤◌, eqb, List, [], ◌∷◌, ◌++◌, length, get_or, take, refl, ap, true, false, if◌then◌else◌, arith}
use Rattle.std.specs.Prelude.{not}
use Rattle.std.specs.List.{list_all}
use Rattle.std.proofs.lemmas.Bool.{and_from, and_parts, eqb-true, ne_eqb, not-true, not_from_false}
use Rattle.std.proofs.lemmas.List.{take_more, length-take-le}
use Rattle.pf_addr.specs.Clauses.Reading.{behind_at}
use Rattle.pf_addr.proofs.Cases.{either_way}

at_zero : (x : ℕ) → x ≡ (if eqb x 0 then 0 else 0 + x)
at_zero x = either_way (eqb x 0) (λ h. rw h (eqb-true x 0 h)) (λ h. rw h (omega arith))

-- the last at sign of two texts is in the second, or else in the first
pub behind_at-append : (xs ys : List ℕ) → behind_at (xs ++ ys) ≡ (if eqb (behind_at ys) 0 then behind_at xs else length xs + behind_at ys)
behind_at-append [] ys = at_zero (behind_at ys)
behind_at-append (x ∷ xs) ys =
    let behind = behind_at-append xs ys in
    either_way (eqb (behind_at ys) 0)
    (λ h. rw h (rw (rw h at behind)))
    (λ h.
    let some : eqb (length xs + behind_at ys) 0 ≡ false = ne_eqb _ _ (λ z. let e : behind_at ys ≡ 0 = omega arith in cc (h, ap (λ n. eqb n 0) e)) in
    rw (rw h at behind, h, some) (omega arith))

-- one byte less, where it is no at sign
pub behind_at_before : (text : List ℕ) (end : ℕ) → 0 < end → end ≤ length text → eqb (get_or text (end - 1) 0) 64 ≡ false
    → behind_at (take end text) ≡ behind_at (take (end - 1) text)
behind_at_before text end some within other =
    let step : end - 1 + 1 ≡ end = omega arith in
    let more = rw step at (take_more text (end - 1) 0 (omega arith)) in
    rw (more, behind_at-append (take (end - 1) text) (get_or text (end - 1) 0 ∷ []), other)

-- the last byte is an at sign
pub behind_at_last : (text : List ℕ) (end : ℕ) → 0 < end → end ≤ length text → eqb (get_or text (end - 1) 0) 64 ≡ true
    → behind_at (take end text) ≡ end
behind_at_last text end some within at =
    let step : end - 1 + 1 ≡ end = omega arith in
    let more = rw step at (take_more text (end - 1) 0 (omega arith)) in
    rw (more, behind_at-append (take (end - 1) text) (get_or text (end - 1) 0 ∷ []), at)
    (omega (arith, length-take-le (end - 1) text (omega arith)))

-- no byte is an at sign
abbrev pub is_other : ℕ → Bool
is_other b = not (eqb b 64)

pub none_at : (xs : List ℕ) → list_all is_other xs ≡ true → behind_at xs ≡ 0
none_at [] h = refl
none_at (x ∷ xs) h =
    let parts = and_parts (is_other x) (list_all is_other xs) h in
    rw (none_at xs parts.1, not-true (eqb x 64) parts.0)

pub at_none : (xs : List ℕ) → eqb (behind_at xs) 0 ≡ true → list_all is_other xs ≡ true
at_none [] h = refl
at_none (x ∷ xs) h =
    either_way (eqb (behind_at xs) 0)
    (λ none. either_way (eqb x 64) (λ at. cc (rw (none, at) at h)) (λ other. and_from (is_other x) (list_all is_other xs) (not_from_false (eqb x 64) other) (at_none xs none)))
    (λ some. let e : behind_at xs + 1 ≡ 0 = eqb-true _ 0 (rw some at h) in absurd (omega (arith, e)))

-- the last at sign
pub record IsAt (xs : List ℕ) (n : ℕ) : Type 0 where
  pub some : 0 < n
  pub within : n ≤ length xs
  pub at : get_or xs (n - 1) 0 ≡ 64

at_next : (x : ℕ) (xs : List ℕ) (n : ℕ) → IsAt xs n → IsAt (x ∷ xs) (n + 1)
at_next x xs n there = record {
  some = omega arith;
  within = omega (arith, there.within);
  at = let e : n + 1 - 1 ≡ suc (n - 1) = omega (arith, there.some) in rw e there.at;
}

pub at_there : (xs : List ℕ) → eqb (behind_at xs) 0 ≡ false → IsAt xs (behind_at xs)
at_there [] h = cc
at_there (x ∷ xs) h =
    either_way (eqb (behind_at xs) 0)
    (λ none. either_way (eqb x 64)
    (λ at. rw (none, at) (record { some = omega arith; within = omega arith; at = eqb-true x 64 at }))
    (λ other. cc (rw (none, other) at h)))
    (λ some. rw some (at_next x xs _ (at_there xs some)))
