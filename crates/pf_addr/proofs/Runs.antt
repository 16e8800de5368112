-- Runs of bytes that pass a test.
use Rattle.std.proofs.Common.{◌≡◌, ℕ, ◌<◌, ◌≤◌, Bool, List, [], ◌∷◌, ◌++◌, length, get_or, take, true, false, refl, arith}
use Rattle.std.specs.List.{list_all, prefix_len}
use Rattle.std.proofs.lemmas.Bool.{and_from, and_parts, cases_lt}
use Rattle.std.proofs.lemmas.List.{get_or-take, get_or_past}
use Rattle.std.proofs.lemmas.List.Sums.{list_all-from_AllPass, prefix_len_passes, prefix_len_stops, prefix_len-le-length}
use Rattle.std.proofs.Common.{⊎_elim, length-take-le}

-- a run ends where a byte fails
pub run : (p : ℕ → Bool) (xs ys : List ℕ) → list_all p xs ≡ true → p (get_or ys 0 0) ≡ false → prefix_len p (xs ++ ys) ≡ length xs
run p [] [] all ends = refl
run p [] (y ∷ ys) all ends = rw ends
run p (x ∷ xs) ys all ends =
    let parts = and_parts (p x) (list_all p xs) all in
    rw (parts.0, run p xs ys parts.1 ends) (omega arith)

-- each byte before a place within a run passes
pub run_passes : (p : ℕ → Bool) (xs : List ℕ) (n : ℕ) → n ≤ prefix_len p xs → list_all p (take n xs) ≡ true
run_passes p xs n within =
    let long = prefix_len-le-length p xs in
    let len = length-take-le n xs (omega arith) in
    list_all-from_AllPass p (take n xs) (λ k d lt.
    let below : k < n = omega (arith, len) in
    rw (get_or-take n xs k d below) (prefix_len_passes p xs k d (omega (arith, below))))

-- the byte after a run fails, or there is none
pub run_stops : (p : ℕ → Bool) (xs : List ℕ) → p 0 ≡ false → p (get_or xs (prefix_len p xs) 0) ≡ false
run_stops p xs none =
    ⊎_elim (λ lt. prefix_len_stops p xs 0 lt) (λ past. rw (get_or_past xs (prefix_len p xs) 0 past) none) (cases_lt (prefix_len p xs) (length xs))

-- a weaker test
pub all_weaker : (p q : ℕ → Bool) → ((b : ℕ) → p b ≡ true → q b ≡ true) → (xs : List ℕ) → list_all p xs ≡ true → list_all q xs ≡ true
all_weaker p q weaker [] all = refl
all_weaker p q weaker (x ∷ xs) all =
    let parts = and_parts (p x) (list_all p xs) all in
    and_from (q x) (list_all q xs) (weaker x parts.0) (all_weaker p q weaker xs parts.1)

-- the first byte of a text that is not empty passes
pub first_passes : (p : ℕ → Bool) (xs ys : List ℕ) → 0 < length xs → list_all p xs ≡ true → p (get_or (xs ++ ys) 0 0) ≡ true
first_passes p [] ys some all = absurd (omega arith)
first_passes p (x ∷ xs) ys some all = (and_parts (p x) (list_all p xs) all).0
