-- A table that is filled: each slot finds room, and each is reached from its hash afterwards.
use Rattle.std.proofs.Common.{◌≡◌, ◌+◌, ◌-◌, ◌*◌, ◌/◌, ◌%◌, ◌<◌, ◌≤◌, ℕ, zero, suc, Bool, true, false, not, cond, List, [], ◌∷◌, length, take, get_or, set, replicate, refl, ap, ◌∙◌, sym, subst, arith, add-one, ⊎_elim}
use Rattle.std.specs.List.{count_by, fold, prefix_len}
use Rattle.std.proofs.lemmas.Bool.{cases_lt, eq-eqb}
use Rattle.std.proofs.lemmas.List.{get_or_default, length-replicate, length-set, length-take-le, set_past, take_all}
use Rattle.std.proofs.lemmas.List.Folds.{sum_by-replicate}
use Rattle.std.proofs.lemmas.List.Sums.{count_by_more_yes, prefix_len_is, sum_by-set}
use Rattle.std.proofs.lemmas.Nat.{div-add-mod', mod-mul-add, mod_below}
use native.Mathlib.Nat.{add-mul}
use Rattle.pf_cdb.proofs.SearchLaws.{get_tried, length_tried}
use Rattle.pf_cdb.specs.Clauses.Gathered.{step_slot}
use Rattle.pf_cdb.specs.Held.{empty, is_used, tried}
use Rattle.pf_cdb.specs.Written.{filled, put}
use Rattle.pf_cdb.specs.declared.layout.Slot.{Slot}

-- a slot is put where the first empty one was tried
pub put_is : (slots : List Slot) (slot : Slot) (step : ℕ) → step < length slots
    → ((k : ℕ) → k < step → is_used (step_slot slots slot.hash k) ≡ true) → is_used (step_slot slots slot.hash step) ≡ false
    → set slots ((slot.hash / 256 + step) % length slots) slot ≡ put slots slot
unfolding put
put_is slots slot step low used free =
    let within : step < length (tried slots slot.hash) = omega (arith, length_tried slots slot.hash) in
    let first : prefix_len is_used (tried slots slot.hash) ≡ step =
    prefix_len_is is_used (tried slots slot.hash) step empty (omega arith)
    (λ k less. ap is_used (get_tried slots slot.hash k empty (omega arith)) ∙ used k less)
    (λ _. ap is_used (get_tried slots slot.hash step empty low) ∙ free) in
    ap (λ n. set slots ((slot.hash / 256 + n) % length slots) slot) (sym first)

-- going round, each place is come to
pub rotates : (a n i : ℕ) → i < n → (j : ℕ) × (j < n) × ((a + j) % n ≡ i)
rotates a n i low =
    let split = div-add-mod' a n in
    let rest : a % n < n = mod_below a n (omega arith) in
    ⊎_elim {A = a % n < i + 1} {B = i + 1 ≤ a % n}
    (λ here. (
      i - a % n,
      omega arith,
      (let e : a + (i - a % n) ≡ a / n * n + i = omega arith in ap (λ m. m % n) e ∙ mod-mul-add (a / n) n i low),
    ))
    (λ past. (
      i + n - a % n,
      omega arith,
      (let twice = add-mul (a / n) 1 n in
          let e : a + (i + n - a % n) ≡ (a / n + 1) * n + i = omega arith in ap (λ m. m % n) e ∙ mod-mul-add (a / n + 1) n i low),
    ))
    (cases_lt (a % n) (i + 1))

count_prefix : (slots : List Slot) (n : ℕ) → n ≤ length slots → ((i : ℕ) → i < n → is_used (get_or slots i empty) ≡ true) → count_by is_used (take n slots) ≡ n
count_prefix slots zero low used = refl
count_prefix slots (suc n) low used =
    ap (λ k. count_by is_used (take k slots)) (sym (add-one n))
    ∙ count_by_more_yes is_used slots n empty (omega arith) (used n (omega arith))
    ∙ ap (λ k. k + 1) (count_prefix slots n (omega arith) (λ i less. used i (omega arith)))
    ∙ add-one n

-- where all steps meet used slots, all slots are used
pub all_used : (slots : List Slot) (hash : ℕ) → ((k : ℕ) → k < length slots → is_used (step_slot slots hash k) ≡ true) → count_by is_used slots ≡ length slots
all_used slots hash used =
    ap (count_by is_used) (sym (take_all (length slots) slots (omega arith)))
    ∙ count_prefix slots (length slots) (omega arith) (λ i low.
    let (j, within, at) = rotates (hash / 256) (length slots) i low in
    ap (λ k. is_used (get_or slots k empty)) (sym at) ∙ used j within)

one_at_most : (b : Bool) → cond b 1 0 ≤ 1
one_at_most true = omega arith
one_at_most false = omega arith

count_set : (slots : List Slot) (i : ℕ) (slot : Slot) → count_by is_used (set slots i slot) ≤ count_by is_used slots + 1
count_set slots i slot =
    ⊎_elim {A = i < length slots} {B = length slots ≤ i}
    (λ low. omega (arith, sum_by-set (λ s. cond (is_used s) 1 0) slots i slot empty low, one_at_most (is_used slot)))
    (λ past. rw (set_past slots i slot past) (omega arith))
    (cases_lt i (length slots))

pub count_put : (slots : List Slot) (slot : Slot) → count_by is_used (put slots slot) ≤ count_by is_used slots + 1
unfolding put
count_put slots slot = count_set slots _ slot

pub length_put : (slots : List Slot) (slot : Slot) → length (put slots slot) ≡ length slots
unfolding put
length_put slots slot = length-set slots _ slot

pub length_puts : (slots more : List Slot) → length (fold put slots more) ≡ length slots
length_puts slots [] = refl
length_puts slots (slot ∷ more) = length_puts (put slots slot) more ∙ length_put slots slot

count_puts : (slots more : List Slot) → count_by is_used (fold put slots more) ≤ count_by is_used slots + length more
count_puts slots [] = omega arith
count_puts slots (slot ∷ more) = omega (arith, count_puts (put slots slot) more, count_put slots slot)

pub count_empty : (n : ℕ) → count_by is_used (replicate n empty) ≡ 0
count_empty n = sum_by-replicate (λ s. cond (is_used s) 1 0) n empty ∙ omega arith

-- while a table is filled there is room
pub has_room : (placed : List Slot) (i : ℕ) → i < length placed
    → count_by is_used (fold put (replicate (2 * length placed) empty) (take i placed)) < length (fold put (replicate (2 * length placed) empty) (take i placed))
has_room placed i low =
    let start = replicate (2 * length placed) empty in
    omega (
      arith,
      count_puts start (take i placed),
      count_empty (2 * length placed),
      length_puts start (take i placed),
      length-replicate (2 * length placed) empty,
      length-take-le i placed (omega arith),
    )

pub length_filled : (slots : List Slot) → length (filled slots) ≡ 2 * length slots
unfolding filled
length_filled slots = length_puts (replicate (2 * length slots) empty) slots ∙ length-replicate (2 * length slots) empty

-- the same of slots that a loop went over, read at any default
put_at : (slots now : List Slot) (slot : Slot) (step : ℕ) (d : Slot) → slots ≡ now → step < length now
    → ((k : ℕ) → k < step → is_used (step_slot now slot.hash k) ≡ true)
    → (get_or slots ((slot.hash / 256 + step) % length slots) d).at ≡ 0
    → set slots ((slot.hash / 256 + step) % length slots) slot ≡ put now slot
put_at slots now slot step d same low used free =
    let inside : (slot.hash / 256 + step) % length now < length now = mod_below _ (length now) (omega arith) in
    let read : (get_or now ((slot.hash / 256 + step) % length now) d).at ≡ 0 = subst (λ l. (get_or l ((slot.hash / 256 + step) % length l) d).at ≡ 0) same free in
    let place : (step_slot now slot.hash step).at ≡ 0 = ap (λ s. s.at) (get_or_default now ((slot.hash / 256 + step) % length now) empty d inside) ∙ read in
    ap (λ l. set l ((slot.hash / 256 + step) % length l) slot) same
    ∙ put_is now slot step low used (ap not (eq-eqb (step_slot now slot.hash step).at 0 place))

-- and at a place that was found to be the one of the step
pub put_here : (slots now : List Slot) (slot : Slot) (step i : ℕ) (d : Slot) → slots ≡ now → step < length now
    → ((k : ℕ) → k < step → is_used (step_slot now slot.hash k) ≡ true) → i ≡ (slot.hash / 256 + step) % length slots
    → (get_or slots i d).at ≡ 0 → set slots i slot ≡ put now slot
put_here slots now slot step i d same low used at free =
    ap (λ n. set slots n slot) at ∙ put_at slots now slot step d same low used (ap (λ n. (get_or slots n d).at) (sym at) ∙ free)
