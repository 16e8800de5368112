-- Lists in which all that pass are before the first that is not used, and one more put where none was used.
use Rattle.std.proofs.Common.{◌≡◌, ◌+◌, ◌<◌, ℕ, zero, suc, Bool, true, false, cond, List, [], ◌∷◌, ◌++◌, Some, length, drop, get_or, set, refl, ap, ◌∙◌, sym, arith, ⊎_elim}
use Rattle.std.specs.List.{All, filter, find, prefix_len}
use Rattle.std.specs.Prelude.{take_while}
use Rattle.std.proofs.lemmas.Bool.{cases_Bool, false_from_ne_true, true≢false}
use Rattle.std.proofs.lemmas.List.Elements.{All-head, All-tail}
use Rattle.std.proofs.lemmas.List.Sums.{take_while-cons}

filter_yes : {X : Type 0} (test : X → Bool) (x : X) (xs : List X) → test x ≡ true → filter test (x ∷ xs) ≡ x ∷ filter test xs
filter_yes test x xs e = ap (λ b. cond b (x ∷ filter test xs) (filter test xs)) e

filter_no : {X : Type 0} (test : X → Bool) (x : X) (xs : List X) → test x ≡ false → filter test (x ∷ xs) ≡ filter test xs
filter_no test x xs e = ap (λ b. cond b (x ∷ filter test xs) (filter test xs)) e

while_yes : {X : Type 0} (used : X → Bool) (x : X) (xs : List X) → used x ≡ true → take_while used (x ∷ xs) ≡ x ∷ take_while used xs
while_yes used x xs e = take_while-cons used x xs ∙ ap (λ b. cond b (x ∷ take_while used xs) []) e

while_no : {X : Type 0} (used : X → Bool) (x : X) (xs : List X) → used x ≡ false → take_while used (x ∷ xs) ≡ []
while_no used x xs e = take_while-cons used x xs ∙ ap (λ b. cond b (x ∷ take_while used xs) []) e

-- none passes, of the first and of the others
none_head : {X : Type 0} (test : X → Bool) (x : X) (xs : List X) → filter test (x ∷ xs) ≡ [] → test x ≡ false
none_head test x xs none =
    false_from_ne_true (test x) (λ t. let e : x ∷ filter test xs ≡ [] = sym (filter_yes test x xs t) ∙ none in absurd (cc))

none_tail : {X : Type 0} (test : X → Bool) (x : X) (xs : List X) → filter test (x ∷ xs) ≡ [] → filter test xs ≡ []
none_tail test x xs none = sym (filter_no test x xs (none_head test x xs none)) ∙ none

none_set : {X : Type 0} (test : X → Bool) (xs : List X) (j : ℕ) (y : X) → filter test xs ≡ [] → test y ≡ false → filter test (set xs j y) ≡ []
none_set test [] j y none fails = refl
none_set test (x ∷ xs) zero y none fails = filter_no test y xs fails ∙ none_tail test x xs none
none_set test (x ∷ xs) (suc j) y none fails =
    filter_no test x (set xs j y) (none_head test x xs none) ∙ none_set test xs j y (none_tail test x xs none) fails

pub none_pass : {X : Type 0} (test : X → Bool) (xs : List X) → All (λ x. test x ≡ false) xs → filter test xs ≡ []
none_pass test [] all = refl
none_pass test (x ∷ xs) all =
    filter_no test x xs (All-head (λ y. test y ≡ false) x xs all) ∙ none_pass test xs (All-tail (λ y. test y ≡ false) x xs all)

-- all that pass are before the first that is not used
abbrev pub Settled : {X : Type 0} → (X → Bool) → (X → Bool) → List X → Type 0
Settled used test xs = filter test (take_while used xs) ≡ filter test xs

settled_tail : {X : Type 0} (used test : X → Bool) (x : X) (xs : List X) → used x ≡ true → Settled used test (x ∷ xs) → Settled used test xs
settled_tail used test x xs u settled =
    let prefix = take_while used xs in
    let e : filter test (x ∷ prefix) ≡ filter test (x ∷ xs) = ap (filter test) (sym (while_yes used x xs u)) ∙ settled in
    ⊎_elim {A = test x ≡ true} {B = test x ≡ false}
    (λ t. ap (drop 1) (sym (filter_yes test x prefix t) ∙ e ∙ filter_yes test x xs t))
    (λ f. sym (filter_no test x prefix f) ∙ e ∙ filter_no test x xs f)
    (cases_Bool (test x))

settled_none : {X : Type 0} (used test : X → Bool) (x : X) (xs : List X) → used x ≡ false → test x ≡ false → Settled used test (x ∷ xs) → filter test xs ≡ []
settled_none used test x xs u f settled = sym (filter_no test x xs f) ∙ sym settled ∙ ap (filter test) (while_no used x xs u)

settled_more : {X : Type 0} (used test : X → Bool) (x : X) (xs : List X) → used x ≡ true → Settled used test xs → Settled used test (x ∷ xs)
settled_more used test x xs u settled = ap (filter test) (while_yes used x xs u) ∙ ap (λ l. cond (test x) (x ∷ l) l) settled

settled_stop : {X : Type 0} (used test : X → Bool) (x : X) (xs : List X) → used x ≡ false → test x ≡ false → filter test xs ≡ [] → Settled used test (x ∷ xs)
settled_stop used test x xs u f none = ap (filter test) (while_no used x xs u) ∙ sym (filter_no test x xs f ∙ none)

pub none_settled : {X : Type 0} (used test : X → Bool) (xs : List X) → filter test xs ≡ [] → Settled used test xs
none_settled used test [] none = refl
none_settled used test (x ∷ xs) none =
    let rest = none_tail test x xs none in
    ⊎_elim {A = used x ≡ true} {B = used x ≡ false}
    (λ u. settled_more used test x xs u (none_settled used test xs rest))
    (λ u. settled_stop used test x xs u (none_head test x xs none) rest)
    (cases_Bool (used x))

cond_append : {X : Type 0} (b : Bool) (x : X) (xs ys : List X) → cond b (x ∷ (xs ++ ys)) (xs ++ ys) ≡ cond b (x ∷ xs) xs ++ ys
cond_append true x xs ys = refl
cond_append false x xs ys = refl

-- the list is settled with one more, which is after the others that pass
pub record Puts {X : Type 0} (used test : X → Bool) (xs : List X) (j : ℕ) (y : X) : Type 0 where
  pub settled : Settled used test (set xs j y)
  pub same : filter test (set xs j y) ≡ filter test xs ++ filter test (y ∷ [])

put_first : {X : Type 0} (used test : X → Bool) (x : X) (xs : List X) (y : X) → used x ≡ false → test x ≡ false → used y ≡ true → Settled used test (x ∷ xs)
    → Puts used test (x ∷ xs) 0 y
put_first used test x xs y free f uses settled =
    let none = settled_none used test x xs free f settled in
    record {
      settled = settled_more used test y xs uses (none_settled used test xs none);
      same = ap (λ l. cond (test y) (y ∷ l) l) none ∙ sym (ap (λ l. l ++ filter test (y ∷ [])) (filter_no test x xs f ∙ none));
    }

put_behind : {X : Type 0} (used test : X → Bool) (x : X) (xs : List X) (j : ℕ) (y : X) → used x ≡ true → Puts used test xs j y → Puts used test (x ∷ xs) (suc j) y
put_behind used test x xs j y u puts = record {
  settled = settled_more used test x (set xs j y) u puts.settled;
  same = ap (λ l. cond (test x) (x ∷ l) l) puts.same ∙ cond_append (test x) x (filter test xs) (filter test (y ∷ []));
}

put_beyond : {X : Type 0} (used test : X → Bool) (x : X) (xs : List X) (j : ℕ) (y : X) → used x ≡ false → test x ≡ false → test y ≡ false → Settled used test (x ∷ xs)
    → Puts used test (x ∷ xs) (suc j) y
put_beyond used test x xs j y free f fails settled =
    let none = settled_none used test x xs free f settled in
    let still = none_set test xs j y none fails in
    record {
      settled = settled_stop used test x (set xs j y) free f still;
      same =
          filter_no test x (set xs j y) f ∙ still
          ∙ sym (ap (λ l. l ++ filter test (y ∷ [])) (filter_no test x xs f ∙ none) ∙ filter_no test y [] fails);
    }

pub puts : {X : Type 0} (used test : X → Bool) → ((x : X) → used x ≡ false → test x ≡ false) → (xs : List X) (j : ℕ) (y d : X) → j < length xs
    → used (get_or xs j d) ≡ false → used y ≡ true → (test y ≡ true → j ≡ prefix_len used xs) → Settled used test xs → Puts used test xs j y
puts used test unless [] j y d low free uses first settled = absurd (omega arith)
puts used test unless (x ∷ xs) zero y d low free uses first settled = put_first used test x xs y free (unless x free) uses settled
puts used test unless (x ∷ xs) (suc j) y d low free uses first settled =
    ⊎_elim {A = used x ≡ true} {B = used x ≡ false}
    (λ u.
    let next = λ (t : test y ≡ true). let e : suc j ≡ 1 + prefix_len used xs = first t ∙ ap (λ b. cond b (1 + prefix_len used xs) 0) u in
    let same : j ≡ prefix_len used xs = omega arith in same in
    put_behind used test x xs j y u (puts used test unless xs j y d (omega arith) free uses next (settled_tail used test x xs u settled)))
    (λ u.
    let fails = false_from_ne_true (test y) (λ t.
    let e : suc j ≡ 0 = first t ∙ ap (λ b. cond b (1 + prefix_len used xs) 0) u in absurd (omega arith)) in
    put_beyond used test x xs j y u (unless x u) fails settled)
    (cases_Bool (used x))

-- a search meets those that pass alone, where what it looks for passes
pub find_filter : {X : Type 0} (p test : X → Bool) (xs : List X) → All (λ x. p x ≡ true → test x ≡ true) xs → find p (filter test xs) ≡ find p xs
find_filter p test [] all = refl
find_filter p test (x ∷ xs) all =
    let here : p x ≡ true → test x ≡ true = All-head (λ y. p y ≡ true → test y ≡ true) x xs all in
    let rest = find_filter p test xs (All-tail (λ y. p y ≡ true → test y ≡ true) x xs all) in
    ⊎_elim {A = test x ≡ true} {B = test x ≡ false}
    (λ t. ap (find p) (filter_yes test x xs t) ∙ ap (λ o. cond (p x) (Some x) o) rest)
    (λ f.
    let fails : p x ≡ false = false_from_ne_true (p x) (λ t. true≢false (sym (here t) ∙ f)) in
    ap (find p) (filter_no test x xs f) ∙ rest ∙ sym (ap (λ b. cond b (Some x) (find p xs)) fails))
    (cases_Bool (test x))
