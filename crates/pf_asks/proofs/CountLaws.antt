-- How many lookups a question makes.
use Rattle.std.proofs.Common.{◌≡◌, ◌≤◌, ◌+◌, ℕ, List, [], ◌∷◌, Option, length, ap, arith, append-nil}
use Rattle.pf_asks.specs.Heard.{◌then◌, next, nothing}
use Rattle.pf_asks.specs.Clauses.Led.{AtMost, ByTables, Meant}
use Rattle.pf_asks.specs.Looking.{Looked, Tables}
use Rattle.pf_asks.specs.Questions.{Ask, Means, done, look, ◌>>=◌}
use Rattle.pf_asks.proofs.LedLaws.{alone, meant_by, no_values, knows_meant}

pub at_most_done : {A : Type 0} (x : A) → AtMost 0 (done x)
unfolding done
at_most_done x = record { looks = λ means heard. omega arith }

next_looks : (looks : List (Option Looked)) → length looks ≤ length (next looks).1 + 1
next_looks [] = omega arith
next_looks (one ∷ more) = omega arith

pub at_most_look : (id : ℕ) (key : List ℕ) → AtMost 1 (look id key)
unfolding look
at_most_look id key = record { looks = λ means heard. next_looks heard.looks }

pub at_most_next : {A B : Type 0} {m n : ℕ} {p : Ask A} (f : A → Ask B) → AtMost m p → ((x : A) → AtMost n (f x)) → AtMost (m + n) (p >>= f)
unfolding ◌>>=◌
at_most_next {p = p} f first then_ = record {
  looks = λ means heard. omega (arith, first.looks means heard, (then_ (p means heard).answer).looks means (p means heard).left);
}

pub at_most_more : {A : Type 0} {m n : ℕ} {p : Ask A} → m ≤ n → AtMost m p → AtMost n p
at_most_more le most = record { looks = λ means heard. omega (arith, le, most.looks means heard) }

abbrev means_of : Tables → Means
means_of tables = record { values = meant_by tables.held.content no_values; rows = [] }

meant_alone : (tables : Tables) → Meant (alone tables) (means_of tables)
meant_alone tables = record { values = knows_meant tables.held.content no_values; rows = tt }

-- at most so many lookups were made
pub by_tables_finds : {A : Type 0} (old new : Tables) (p : Ask A) (x : A) {n : ℕ} → ByTables old new p x → AtMost n p → new.finds ≤ old.finds + n
unfolding done
by_tables_finds old new p x by most =
    let led = by (alone old) in
    let all : length (led.heard then nothing).looks ≡ length led.heard.looks = ap length (append-nil led.heard.looks) in
    let left : length (p (means_of old) (led.heard then nothing)).left.looks ≡ 0 =
    ap (λ gave. length gave.left.looks) (led.is (means_of old) (meant_alone old) nothing) in
    omega (arith, led.tables.stays.few, most.looks (means_of old) (led.heard then nothing), all, left)

-- and no count fell
pub by_tables_later : {A : Type 0} (old new : Tables) (p : Ask A) (x : A) → ByTables old new p x → old.held.faults ≤ new.held.faults
by_tables_later old new p x by = omega (arith, (by (alone old)).tables.hears.faults)
