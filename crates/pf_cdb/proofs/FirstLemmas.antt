-- The first number of which something is said.
use Rattle.std.proofs.Common.{◌≡◌, ◌+◌, ◌<◌, ◌≤◌, ℕ, zero, suc, true, false, Option, Some, None, refl, ap, ◌∙◌, sym, subst, arith, add-one, ⊎_elim}
use Rattle.std.specs.Option.{is_some, option_or}
use Rattle.std.proofs.lemmas.Bool.{cases_lt, false≢true}
use Rattle.pf_cdb.specs.Damaged.{first_below}

pub first_none : {A : Type 0} (says : ℕ → Option A) → first_below 0 says ≡ None
unfolding first_below
first_none says = refl

pub none_is : {A : Type 0} (o : Option A) → is_some o ≡ false → o ≡ None
none_is None e = refl
none_is (Some x) e = absurd (false≢true (sym e))

or_some : {A : Type 0} (o p : Option A) → is_some o ≡ true → option_or o p ≡ o
or_some None p e = absurd (false≢true e)
or_some (Some x) p e = refl

-- where nothing is said of one of both, of each nothing is
pub or_none : {A : Type 0} (o p : Option A) → option_or o p ≡ None → (o ≡ None) × (p ≡ None)
or_none None p e = (refl, e)
or_none (Some x) p e = absurd (cc)

first_suc : {A : Type 0} (n : ℕ) (says : ℕ → Option A) → first_below n says ≡ None → first_below (suc n) says ≡ says n
unfolding first_below
first_suc n says e = ap (λ o. option_or o (says n)) e

pub first_more : {A : Type 0} (n : ℕ) (says : ℕ → Option A) (o : Option A) → first_below n says ≡ None → o ≡ says n → is_some o ≡ false
    → first_below (n + 1) says ≡ None
first_more n says o none is fails =
    ap (λ k. first_below k says) (add-one n) ∙ first_suc n says none ∙ sym is ∙ none_is o fails

-- what is said of the number before which nothing was said is the first that is said
pub first_found : {A : Type 0} (n k : ℕ) (says : ℕ → Option A) (o : Option A) → k < n → first_below k says ≡ None → o ≡ says k → is_some o ≡ true
    → o ≡ first_below n says
unfolding first_below
first_found zero k says o low none is some = absurd (omega arith)
first_found (suc n) k says o low none is some =
    ⊎_elim {A = k < n} {B = n ≤ k}
    (λ below. let here : o ≡ first_below n says = first_found n k says o below none is some in
    sym (or_some o (says n) some) ∙ ap (λ p. option_or p (says n)) here)
    (λ above. let same : k ≡ n = omega arith in
    is ∙ ap says same ∙ sym (ap (λ p. option_or p (says n)) (subst (λ m. first_below m says ≡ None) same none)))
    (cases_lt k n)

-- nothing is said of any number below
pub none_below : {A : Type 0} (n : ℕ) (says : ℕ → Option A) → first_below n says ≡ None → (k : ℕ) → k < n → says k ≡ None
unfolding first_below
none_below zero says e k low = absurd (omega arith)
none_below (suc n) says e k low =
    let (before, here) = or_none (first_below n says) (says n) e in
    ⊎_elim {A = k < n} {B = n ≤ k} (none_below n says before k) (λ above. let same : k ≡ n = omega arith in ap says same ∙ here) (cases_lt k n)

pub none_from : {A : Type 0} (n : ℕ) (says : ℕ → Option A) → ((k : ℕ) → k < n → says k ≡ None) → first_below n says ≡ None
unfolding first_below
none_from zero says none = refl
none_from (suc n) says none =
    ap (λ o. option_or o (says n)) (none_from n says (λ k low. none k (omega arith))) ∙ none n (omega arith)
