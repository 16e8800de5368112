-- Bytes that are at a place of a file, and what is read there.
use Rattle.std.proofs.Common.{◌≡◌, ◌+◌, ◌<◌, ◌^◌, ℕ, zero, suc, List, [], ◌∷◌, ◌++◌, length, take, drop, get_or, refl, ap, ◌∙◌, sym, subst, arith}
use Rattle.std.specs.Int.{from_le_bytes, w32}
use Rattle.std.specs.List.{flat_map, sum_by}
use Rattle.std.proofs.lemmas.List.{append_assoc, drop-drop, drop_at, take_at}
use Rattle.std.proofs.lemmas.List.Sums.{sum_by-cons}
use Rattle.std.proofs.lemmas.Nat.{from_le_bytes-to_le_bytes_4}
use Rattle.pf_cdb.specs.Layout.{word}
use Rattle.pf_cdb.specs.Written.{bytes_of}

-- these bytes are at this place
pub record Stands (file : List ℕ) (at : ℕ) (bytes : List ℕ) : Type 0 where
  pub rest : List ℕ
  pub is : drop at file ≡ bytes ++ rest

pub stands_left : (file : List ℕ) (at : ℕ) (a b : List ℕ) → Stands file at (a ++ b) → Stands file at a
stands_left file at a b stands = record { rest = b ++ stands.rest; is = stands.is ∙ append_assoc a b stands.rest }

pub stands_right : (file : List ℕ) (at n : ℕ) (a b : List ℕ) → length a ≡ n → Stands file at (a ++ b) → Stands file (at + n) b
stands_right file at n a b size stands = record {
  rest = stands.rest;
  is = sym (drop-drop n at file) ∙ ap (drop n) (stands.is ∙ append_assoc a b stands.rest) ∙ drop_at a (b ++ stands.rest) n size;
}

pub take_there : (file : List ℕ) (at n : ℕ) (bytes : List ℕ) → length bytes ≡ n → Stands file at bytes → take n (drop at file) ≡ bytes
take_there file at n bytes size stands = ap (take n) stands.is ∙ take_at bytes stands.rest n size

pub word_there : (file : List ℕ) (at n : ℕ) → n < 2 ^ 32 → Stands file at (bytes_of n) → word file at ≡ n
unfolding word
word_there file at n low stands = ap (from_le_bytes w32) (take_there file at 4 (bytes_of n) refl stands) ∙ from_le_bytes-to_le_bytes_4 n low

-- of parts that stand one after the other, the one at a place
pub stands_nth : {X : Type 0} (f : X → List ℕ) (size : X → ℕ) → ((x : X) → length (f x) ≡ size x)
    → (file : List ℕ) (at : ℕ) (xs : List X) (i : ℕ) (d : X) → i < length xs → Stands file at (flat_map f xs) → Stands file (at + sum_by size (take i xs)) (f (get_or xs i d))
stands_nth f size sizes file at [] i d low stands = absurd (omega arith)
stands_nth f size sizes file at (x ∷ xs) zero d low stands =
    subst (λ n. Stands file n (f x)) (let e : at ≡ at + 0 = omega arith in e) (stands_left file at (f x) (flat_map f xs) stands)
stands_nth f size sizes file at (x ∷ xs) (suc i) d low stands =
    let next = stands_right file at (size x) (f x) (flat_map f xs) (sizes x) stands in
    let sum : at + size x + sum_by size (take i xs) ≡ at + sum_by size (x ∷ take i xs) = omega (arith, sum_by-cons size x (take i xs)) in
    subst (λ n. Stands file n (f (get_or xs i d))) sum (stands_nth f size sizes file (at + size x) xs i d (omega arith) next)
