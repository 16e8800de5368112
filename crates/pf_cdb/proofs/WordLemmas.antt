-- The number in four bytes of a file.
use Rattle.std.proofs.Common.{◌≡◌, ◌+◌, ◌<◌, ◌≤◌, ℕ, List, [], ◌∷◌, length, take, drop, get_or, refl, ap, ◌∙◌, sym, arith}
use Rattle.std.specs.Int.{from_le_bytes, w32}
use Rattle.std.proofs.lemmas.List.{drop_more}
use Rattle.pf_cdb.specs.Layout.{word}

-- what is left from a place on begins with the byte there
drop_next : (xs : List ℕ) (i j : ℕ) → i < length xs → i + 1 ≡ j → drop i xs ≡ get_or xs i 0 ∷ drop j xs
drop_next xs i j h e = drop_more xs i 0 h ∙ ap (λ k. get_or xs i 0 ∷ drop k xs) e

-- the four bytes one by one
pub four_bytes : (xs : List ℕ) (at : ℕ) → at + 4 ≤ length xs
    → take 4 (drop at xs) ≡ get_or xs at 0 ∷ get_or xs (at + 1) 0 ∷ get_or xs (at + 2) 0 ∷ get_or xs (at + 3) 0 ∷ []
four_bytes xs at h =
    ap (take 4) (drop_next xs at (at + 1) (omega arith) refl)
    ∙ ap (λ l. get_or xs at 0 ∷ take 3 l) (drop_next xs (at + 1) (at + 2) (omega arith) (omega arith))
    ∙ ap (λ l. get_or xs at 0 ∷ get_or xs (at + 1) 0 ∷ take 2 l) (drop_next xs (at + 2) (at + 3) (omega arith) (omega arith))
    ∙ ap (λ l. get_or xs at 0 ∷ get_or xs (at + 1) 0 ∷ get_or xs (at + 2) 0 ∷ take 1 l) (drop_next xs (at + 3) (at + 4) (omega arith) (omega arith))

pub word_of_bytes : (xs : List ℕ) (at : ℕ) → at + 4 ≤ length xs
    → from_le_bytes w32 (get_or xs at 0 ∷ get_or xs (at + 1) 0 ∷ get_or xs (at + 2) 0 ∷ get_or xs (at + 3) 0 ∷ []) ≡ word xs at
unfolding word
word_of_bytes xs at h = ap (from_le_bytes w32) (sym (four_bytes xs at h))
