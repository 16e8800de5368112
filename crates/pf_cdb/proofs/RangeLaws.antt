-- A filter of the numbers in a range is the rising list of those that pass.
use Rattle.std.proofs.Common.{◌≡◌, ◌≢◌, ◌+◌, ◌<◌, ◌≤◌, ℕ, zero, suc, Bool, true, false, cond, List, [], ◌∷◌, refl, ap, ◌∙◌, sym, subst, arith, inl, inr, ⊎_elim, ◌⊎◌}
use Rattle.std.specs.List.{All, AllPairs, Contains, filter, flat_map, range_with_len}
use Rattle.std.specs.Prelude.{⊤}
use Rattle.std.proofs.lemmas.Bool.{cases_Bool, cases_eq, true≢false}
use Rattle.std.proofs.lemmas.List.Elements.{All-append, All-head, All-nil, All-tail, Contains-append_left, Contains-append_right}

pub contains_cons : {X : Type 0} (p : X) (ps : List X) (x : X) → Contains (p ∷ ps) x → (p ≡ x) ⊎ Contains ps x
contains_cons p ps x (zero, low, e) = inl e
contains_cons p ps x (suc k, low, e) = inr (k, omega arith, e)

pub contains_head : {X : Type 0} (p : X) (ps : List X) → Contains (p ∷ ps) p
contains_head p ps = (0, omega arith, refl)

pub contains_tail : {X : Type 0} (p : X) (ps : List X) (x : X) → Contains ps x → Contains (p ∷ ps) x
contains_tail p ps x (k, low, e) = (suc k, omega arith, e)

pub no_member : {X : Type 0} (x : X) → Contains [] x → ⊥
no_member x (k, low, e) = absurd (omega arith)

-- each number is above those before it, and all are from low up to before high
abbrev pub Rising : ℕ → ℕ → List ℕ → Type 0
Rising low high [] = ⊤
Rising low high (p ∷ ps) = (low ≤ p) × (p < high) × Rising (p + 1) high ps

-- all of them pass, and all numbers of the range that pass are among them
pub record Picks (test : ℕ → Bool) (low high : ℕ) (ps : List ℕ) : Type 0 where
  pub pass : All (λ p. test p ≡ true) ps
  pub whole : (k : ℕ) → low ≤ k → k < high → test k ≡ true → Contains ps k

pub above_low : (low high : ℕ) (ps : List ℕ) (x : ℕ) → Rising low high ps → Contains ps x → low ≤ x
above_low low high [] x rising there = absurd (no_member x there)
above_low low high (p ∷ ps) x rising there =
    ⊎_elim {A = p ≡ x} {B = Contains ps x}
    (λ e. omega (arith, rising.0))
    (λ rest. omega (arith, rising.0, above_low (p + 1) high ps x rising.2 rest))
    (contains_cons p ps x there)

pub filter_range : (test : ℕ → Bool) (low n high : ℕ) (ps : List ℕ) → low + n ≡ high → Rising low high ps → Picks test low high ps
    → filter test (range_with_len low n) ≡ ps
filter_range test low zero high [] e rising picks = refl
filter_range test low zero high (p ∷ ps) e rising picks = absurd (omega (arith, rising.0, rising.1))
filter_range test low (suc n) high [] e rising picks =
    ⊎_elim {A = test low ≡ true} {B = test low ≡ false}
    (λ pass. absurd (no_member low (picks.whole low (omega arith) (omega arith) pass)))
    (λ fails. ap (λ b. cond b (low ∷ filter test (range_with_len (low + 1) n)) (filter test (range_with_len (low + 1) n))) fails
    ∙ filter_range test (low + 1) n high [] (omega arith) rising
    (record { pass = picks.pass; whole = λ k above below pass. picks.whole k (omega arith) below pass }))
    (cases_Bool (test low))
filter_range test low (suc n) high (p ∷ ps) e rising picks =
    ⊎_elim {A = test low ≡ true} {B = test low ≡ false}
    (λ pass.
    let first : p ≡ low =
    ⊎_elim {A = p ≡ low} {B = Contains ps low} (λ same. same)
    (λ rest. absurd (omega (arith, rising.0, above_low (p + 1) high ps low rising.2 rest)))
    (contains_cons p ps low (picks.whole low (omega arith) (omega arith) pass)) in
    let rest : Rising (low + 1) high ps = subst (λ k. Rising (k + 1) high ps) first rising.2 in
    let others : Picks test (low + 1) high ps = record {
      pass = All-tail (λ k. test k ≡ true) p ps picks.pass;
      whole = λ k above below passes.
          ⊎_elim {A = p ≡ k} {B = Contains ps k} (λ same. absurd (omega arith)) (λ there. there)
          (contains_cons p ps k (picks.whole k (omega arith) below passes));
    } in
    ap (λ b. cond b (low ∷ filter test (range_with_len (low + 1) n)) (filter test (range_with_len (low + 1) n))) pass
    ∙ ap (λ l. low ∷ l) (filter_range test (low + 1) n high ps (omega arith) rest others)
    ∙ ap (λ k. k ∷ ps) (sym first))
    (λ fails.
    let apart : p ≢ low = λ same. true≢false (sym (All-head (λ k. test k ≡ true) p ps picks.pass) ∙ ap test same ∙ fails) in
    ap (λ b. cond b (low ∷ filter test (range_with_len (low + 1) n)) (filter test (range_with_len (low + 1) n))) fails
    ∙ filter_range test (low + 1) n high (p ∷ ps) (omega arith) ((omega (arith, rising.0, apart), rising.1, rising.2))
    (record { pass = picks.pass; whole = λ k above below passes. picks.whole k (omega arith) below passes }))
    (cases_Bool (test low))

pub rising_from : (low high : ℕ) (xs : List ℕ) → AllPairs (λ x y. x < y) xs → All (λ x. (low ≤ x) × (x < high)) xs → Rising low high xs
rising_from low high [] pairs within = tt
rising_from low high (x ∷ xs) pairs within =
    let head = All-head (λ y. (low ≤ y) × (y < high)) x xs within in (
      head.0,
      head.1,
      rising_from (x + 1) high xs
          (λ i j d less short. pairs (suc i) (suc j) d (omega arith) (omega arith))
          (λ k d short. (omega (arith, pairs 0 (suc k) d (omega arith) (omega arith)), (within (suc k) d (omega arith)).1)),
    )

-- members
pub contains_filter : {X : Type 0} (test : X → Bool) (xs : List X) (x : X) → Contains xs x → test x ≡ true → Contains (filter test xs) x
contains_filter test [] x there pass = absurd (no_member x there)
contains_filter test (y ∷ ys) x there pass =
    ⊎_elim {A = y ≡ x} {B = Contains ys x}
    (λ same. subst (λ b. Contains (cond b (y ∷ filter test ys) (filter test ys)) x) (sym (ap test same ∙ pass))
    (subst (λ z. Contains (y ∷ filter test ys) z) same (contains_head y (filter test ys))))
    (λ rest. let there' = contains_filter test ys x rest pass in
    ⊎_elim {A = test y ≡ true} {B = test y ≡ false}
    (λ t. subst (λ b. Contains (cond b (y ∷ filter test ys) (filter test ys)) x) (sym t) (contains_tail y (filter test ys) x there'))
    (λ f. subst (λ b. Contains (cond b (y ∷ filter test ys) (filter test ys)) x) (sym f) there')
    (cases_Bool (test y)))
    (contains_cons y ys x there)

pub contains_flat_map : {X Y : Type 0} (f : X → List Y) (xs : List X) (x : X) (y : Y) → Contains xs x → Contains (f x) y → Contains (flat_map f xs) y
contains_flat_map f [] x y there has = absurd (no_member x there)
contains_flat_map f (z ∷ zs) x y there has =
    ⊎_elim {A = z ≡ x} {B = Contains zs x}
    (λ same. Contains-append_left (f z) (flat_map f zs) y (subst (λ w. Contains (f w) y) (sym same) has))
    (λ rest. Contains-append_right (f z) (flat_map f zs) y (contains_flat_map f zs x y rest has))
    (contains_cons z zs x there)

pub all_flat_map : {X Y : Type 0} (P : Y → Type 0) (f : X → List Y) (xs : List X) → ((x : X) → All P (f x)) → All P (flat_map f xs)
all_flat_map P f [] each = All-nil P
all_flat_map P f (x ∷ xs) each = All-append P (f x) (flat_map f xs) (each x) (all_flat_map P f xs each)

pub contains_range : (low n k : ℕ) → low ≤ k → k < low + n → Contains (range_with_len low n) k
contains_range low zero k above below = absurd (omega arith)
contains_range low (suc n) k above below =
    ⊎_elim {A = low ≡ k} {B = low ≢ k}
    (λ same. subst (λ x. Contains (low ∷ range_with_len (low + 1) n) x) same (contains_head low (range_with_len (low + 1) n)))
    (λ apart. contains_tail low (range_with_len (low + 1) n) k (contains_range (low + 1) n k (omega arith) (omega arith)))
    (cases_eq low k)
