-- Policy services in memory: the last of their tries, and the place of the next outcome.
use Rattle.std.proofs.Common.{◌≡◌, ◌<◌, ◌≤◌, ◌+◌, ◌-◌, ℕ, zero, suc, min, ◌++◌, Bool, true, false, List, [], ◌∷◌, Option, None, Some, Ok, length, take, drop, set, refl, sym, ap, ◌∙◌, arith, inl, inr}
use Rattle.std.proofs.lemmas.Bool.{cases_lt, false≢true, le-ltb, lt-ltb}
use Rattle.std.proofs.lemmas.List.{length-append, nil_from_length}
use Rattle.pf_base.proofs.Parts.{copied_prefix}
use Rattle.pf_base.specs.declared.fault.Failed.{Failed}
use Rattle.pf_asks.specs.Clauses.MemoryLinks.{MemoryLinks, all_tries, behind_place, fails_at, is_down_at, open_try, outcome_at}
use Rattle.pf_asks.specs.Wire.{Open, ReceivesIn, Wire, begun, hung_up, next_outcome, reply_bytes}
use Rattle.pf_asks.specs.declared.links.LinkStep.TheVariants.{Receive}
use Rattle.pf_asks.specs.declared.links.Outcome.{Outcome}
use Rattle.pf_asks.specs.declared.links.Request.{Request}

-- the last of a list gives way to another
set_at : {A : Type 0} (xs : List A) (x : A) (n : ℕ) → length xs ≡ suc n → set xs n x ≡ take n xs ++ x ∷ []
set_at [] x n e = absurd (omega (arith, e))
set_at (y ∷ []) x zero e = refl
set_at (y ∷ []) x (suc n) e = absurd (omega (arith, e))
set_at (y ∷ z ∷ xs) x zero e = absurd (omega (arith, e))
set_at (y ∷ z ∷ xs) x (suc n) e = ap (λ rest. y ∷ rest) (set_at (z ∷ xs) x n (omega (arith, e)))

pub set_last : {A : Type 0} (xs : List A) (x : A) → 0 < length xs → set xs (length xs - 1) x ≡ take (length xs - 1) xs ++ x ∷ []
set_last xs x some = set_at xs x (length xs - 1) (omega (arith, some))

-- what is before the last
take_at : {A : Type 0} (xs : List A) (x : A) (n : ℕ) → n ≡ length xs → take n (xs ++ x ∷ []) ≡ xs
take_at [] x zero e = refl
take_at [] x (suc n) e = absurd (omega (arith, e))
take_at (y ∷ xs) x zero e = absurd (omega (arith, e))
take_at (y ∷ xs) x (suc n) e = ap (λ rest. y ∷ rest) (take_at xs x n (omega (arith, e)))

pub take_last : {A : Type 0} (xs : List A) (x : A) → take (length (xs ++ x ∷ []) - 1) (xs ++ x ∷ []) ≡ xs
take_last xs x = take_at xs x (length (xs ++ x ∷ []) - 1) (omega (arith, length-append xs (x ∷ [])))

-- the outcomes after the next one
drop_next : (place : ℕ) (outcomes : List Outcome) → place < length outcomes → drop (place + 1) outcomes ≡ (next_outcome (drop place outcomes)).1
drop_next place [] lt = absurd (omega (arith, lt))
drop_next zero (outcome ∷ outcomes) lt = refl
drop_next (suc place) (outcome ∷ outcomes) lt =
    let more : suc place + 1 ≡ suc (place + 1) = omega arith in
    ap (λ n. drop n (outcome ∷ outcomes)) more ∙ drop_next place outcomes (omega (arith, lt))

drop_past : (place : ℕ) (outcomes : List Outcome) → length outcomes ≤ place → drop place outcomes ≡ (next_outcome (drop place outcomes)).1
drop_past zero [] le = refl
drop_past (suc place) [] le = refl
drop_past zero (outcome ∷ outcomes) le = absurd (omega (arith, le))
drop_past (suc place) (outcome ∷ outcomes) le = drop_past place outcomes (omega (arith, le))

pub outcomes_behind : (place : ℕ) (outcomes : List Outcome)
    → drop (behind_place place (length outcomes)) outcomes ≡ (next_outcome (drop place outcomes)).1
outcomes_behind place outcomes =
    elim (cases_lt place (length outcomes)) [
      | inl lt ↦ rw (lt-ltb place (length outcomes) lt) (drop_next place outcomes lt)
      | inr past ↦ rw (le-ltb place (length outcomes) past) (drop_past place outcomes past)
    ]

-- links, those whose try is over, and those in which one has begun
abbrev plain_links : List Outcome → List Request → Option Open → ℕ → MemoryLinks
plain_links outcomes tries opened faults = record { wire = record { outcomes = outcomes; tries = tries; opened = opened }; faults = faults }

abbrev closed_links : List Outcome → List Request → Option Open → ℕ → MemoryLinks
closed_links outcomes tries opened faults = record { wire = hung_up (record { outcomes = outcomes; tries = tries; opened = opened }); faults = faults }

abbrev begun_links : List ℕ → List Outcome → List Request → Option Open → ℕ → MemoryLinks
begun_links service outcomes tries opened faults = record { wire = begun service (record { outcomes = outcomes; tries = tries; opened = opened }); faults = faults }

-- the open try is over
pub view_closed : (outcomes : List Outcome) (is_open : Bool) (request held : Request) (tries new : List Request) (opened : Option Open) (last faults : ℕ)
    → is_open ≡ true → 0 < length tries → last ≡ length tries → held ≡ request → new ≡ set tries (last - 1) held
    → plain_links outcomes new None faults ≡ closed_links outcomes (all_tries is_open request tries) opened faults
view_closed outcomes is_open request held tries new opened last faults begun_ some count same is =
    rw (is, count, same, begun_, set_last tries request some) refl

open_none : (is_open : Bool) (outcome : Outcome) (read : ℕ) → open_try is_open outcome read ≡ None → is_open ≡ false
open_none true outcome read e = cc
open_none false outcome read e = refl

-- a try was begun
pub view_begun : (outcomes : List Outcome) (is_open : Bool) (request item : Request) (tries pushed : List Request) (outcome : Outcome) (service given text : List ℕ)
    (read place behind faults : ℕ)
    → open_try is_open outcome read ≡ None → pushed ≡ tries ++ item ∷ [] → behind ≡ behind_place place (length outcomes) → given ≡ service → text ≡ []
    → plain_links (drop behind outcomes) (all_tries true (record { service = given; text = text }) pushed) (open_try true (outcome_at place outcomes) 0) faults
    ≡ begun_links service (drop place outcomes) (all_tries is_open request tries) (open_try is_open outcome read) faults
view_begun outcomes is_open request item tries pushed outcome service given text read place behind faults none push next same empty =
    rw (push, next, same, empty, open_none is_open outcome read none, take_last tries item, outcomes_behind place outcomes) refl

-- bytes of the reply were received
pub view_received : (is_open : Bool) (outcome : Outcome) (read n : ℕ) (buf : List ℕ) (wire : Wire) → fails_at Receive (open_try is_open outcome read) ≡ false
    → wire.opened ≡ open_try is_open outcome read
    → n ≡ min (length (drop read (reply_bytes outcome))) (length buf) → take n buf ≡ take n (drop read (reply_bytes outcome))
    → ReceivesIn {E = Failed} (open_try is_open outcome read) wire (Some (record wire { opened = open_try is_open outcome (read + n) })) (Ok n) buf
view_received false outcome read n buf wire works opened count copied = absurd (false≢true (sym works))
view_received true outcome read n buf wire works opened count copied = (
  drop (read + n) (reply_bytes outcome),
  refl,
  copied_prefix (reply_bytes outcome) buf read n copied,
  λ none room. nil_from_length _ (omega (arith, count, none, room)),
  λ e. false≢true (sym works ∙ ap (is_down_at Receive) e),
)
