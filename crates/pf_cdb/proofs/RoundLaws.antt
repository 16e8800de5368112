-- A table that is filled: of each hash, the slots that it reaches are those that were put, in their order.
use Rattle.std.proofs.Common.{◌≡◌, ◌≢◌, ◌+◌, ◌*◌, ◌/◌, ◌%◌, ◌<◌, ◌≤◌, ℕ, Bool, true, false, List, [], ◌∷◌, ◌++◌, length, get_or, replicate, set, ap, ◌∙◌, sym, subst, arith, ⊎_elim}
use Rattle.std.specs.Prelude.{◌==◌, ◌&&◌, take_while}
use Rattle.std.specs.List.{All, count_by, filter, find, fold}
use Rattle.std.proofs.lemmas.Bool.{and_left, and_parts, cases_eq, cases_lt, eqb-true}
use Rattle.std.proofs.lemmas.List.{append-nil, append_assoc, get_or-replicate, get_or-set_other, get_or-set_same, length-replicate, length-set, same_lists}
use Rattle.std.proofs.lemmas.List.Elements.{All-head, All-tail, filter-append}
use Rattle.std.proofs.lemmas.Nat.{div-add-mod', mod_below, mul-le}
use native.Mathlib.Nat.{add-mul}
use Rattle.pf_cdb.proofs.HeldLaws.{used_prefix}
use Rattle.pf_cdb.proofs.PlaceLaws.{count_empty, count_put, length_put, rotates}
use Rattle.pf_cdb.proofs.ReachLaws.{free_low, free_place, free_step, is_free}
use Rattle.pf_cdb.proofs.SearchLaws.{get_tried, length_tried}
use Rattle.pf_cdb.proofs.SettledLaws.{Settled, find_filter, none_pass, none_settled, puts}
use Rattle.pf_cdb.specs.Held.{empty, is_used, reached, tried}
use Rattle.pf_cdb.specs.Written.{filled, put}
use Rattle.pf_cdb.specs.declared.layout.Slot.{Slot}

not_above : (a n j k : ℕ) → k < n → (a + j) % n ≡ (a + k) % n → (a + j) / n < (a + k) / n → ⊥
not_above a n j k low same above =
    omega (
      arith,
      div-add-mod' (a + j) n,
      div-add-mod' (a + k) n,
      add-mul ((a + j) / n) 1 n,
      mul-le ((a + j) / n + 1) n ((a + k) / n) n (omega arith) (omega arith),
    )

-- two steps of one round that come to one place are one step
pub step_alone : (a n j k : ℕ) → j < n → k < n → (a + j) % n ≡ (a + k) % n → j ≡ k
step_alone a n j k below low same =
    ⊎_elim {A = (a + j) / n < (a + k) / n} {B = (a + k) / n ≤ (a + j) / n}
    (λ less. absurd (not_above a n j k low same less))
    (λ more.
    ⊎_elim {A = (a + k) / n < (a + j) / n} {B = (a + j) / n ≤ (a + k) / n}
    (λ less. absurd (not_above a n k j below (sym same) less))
    (λ le.
    let quotient : (a + j) / n ≡ (a + k) / n = omega arith in
    let product : (a + j) / n * n ≡ (a + k) / n * n = ap (λ q. q * n) quotient in
    omega (arith, div-add-mod' (a + j) n, div-add-mod' (a + k) n))
    (cases_lt ((a + k) / n) ((a + j) / n)))
    (cases_lt ((a + j) / n) ((a + k) / n))

-- a used slot of a hash
abbrev pub is_of_hash : ℕ → Slot → Bool
is_of_hash hash slot = is_used slot && (slot.hash == hash)

unless_used : (hash : ℕ) (slot : Slot) → is_used slot ≡ false → is_of_hash hash slot ≡ false
unless_used hash slot free = and_left (is_used slot) (slot.hash == hash) free

-- the slots as a hash tries them, after a put: one of them is another
tried_put : (slots : List Slot) (slot : Slot) (hash j : ℕ) → count_by is_used slots < length slots → j < length slots
    → (hash / 256 + j) % length slots ≡ free_place slots slot.hash → tried (put slots slot) hash ≡ set (tried slots hash) j slot
unfolding put
tried_put slots slot hash j room low at =
    let n = length slots in
    let place = free_place slots slot.hash in
    same_lists (tried (put slots slot) hash) (set (tried slots hash) j slot)
    (length_tried (put slots slot) hash ∙ length_put slots slot ∙ sym (length_tried slots hash) ∙ sym (length-set (tried slots hash) j slot))
    (λ k d less.
    let here : k < n = omega (arith, length_tried (put slots slot) hash, length_put slots slot) in
    let within : k < length (put slots slot) = omega (arith, length_put slots slot) in
    let inside : j < length (tried slots hash) = omega (arith, length_tried slots hash) in
    let read : get_or (tried (put slots slot) hash) k d ≡ get_or (set slots place slot) ((hash / 256 + k) % n) empty =
    get_tried (put slots slot) hash k d within
    ∙ ap (λ m. get_or (put slots slot) ((hash / 256 + k) % m) empty) (length_put slots slot) in
    ⊎_elim {A = k ≡ j} {B = k ≢ j}
    (λ same.
    read
    ∙ ap (λ i. get_or (set slots place slot) i empty) (ap (λ i. (hash / 256 + i) % n) same ∙ at)
    ∙ get_or-set_same slots place slot empty (mod_below _ n (omega arith))
    ∙ sym (get_or-set_same (tried slots hash) j slot d inside)
    ∙ ap (λ i. get_or (set (tried slots hash) j slot) i d) (sym same))
    (λ apart.
    let other : (hash / 256 + k) % n ≢ place = λ e. apart (step_alone (hash / 256) n k j here low (e ∙ sym at)) in
    read
    ∙ get_or-set_other slots place ((hash / 256 + k) % n) slot empty other
    ∙ sym (get_or-set_other (tried slots hash) j k slot d apart ∙ get_tried slots hash k d here))
    (cases_eq k j))

-- of a hash, the used slots are these, and all are reached
pub record Holds (slots : List Slot) (hash : ℕ) (these : List Slot) : Type 0 where
  pub settled : Settled is_used (is_of_hash hash) (tried slots hash)
  pub same : filter (is_of_hash hash) (tried slots hash) ≡ filter (is_of_hash hash) these

holds_put : (slots : List Slot) (slot : Slot) (hash : ℕ) (these : List Slot) → count_by is_used slots < length slots → is_used slot ≡ true → Holds slots hash these
    → Holds (put slots slot) hash (these ++ slot ∷ [])
holds_put slots slot hash these room used holds =
    let n = length slots in
    let test = is_of_hash hash in
    let around = rotates (hash / 256) n (free_place slots slot.hash) (mod_below _ n (omega arith)) in
    let j = around.0 in
    let low : j < n = around.1 in
    let at : (hash / 256 + j) % n ≡ free_place slots slot.hash = around.2 in
    let free : is_used (get_or (tried slots hash) j empty) ≡ false =
    ap is_used (get_tried slots hash j empty low ∙ ap (λ i. get_or slots i empty) at) ∙ is_free slots slot.hash room in
    let first = λ (t : test slot ≡ true).
    let same : slot.hash ≡ hash = eqb-true slot.hash hash (and_parts (is_used slot) (slot.hash == hash) t).1 in
    step_alone (hash / 256) n j (free_step slots hash) low (free_low slots hash room) (at ∙ ap (free_place slots) same) in
    let more = puts is_used test (unless_used hash) (tried slots hash) j slot empty (omega (arith, length_tried slots hash)) free used first holds.settled in
    let is = tried_put slots slot hash j room low at in
    record {
      settled = subst (Settled is_used test) (sym is) more.settled;
      same =
          ap (filter test) is ∙ more.same ∙ ap (λ l. l ++ filter test (slot ∷ [])) holds.same
          ∙ sym (filter-append test these (slot ∷ []));
    }

holds_puts : (slots more : List Slot) (hash : ℕ) (these : List Slot) → count_by is_used slots + length more ≤ length slots → All (λ s. is_used s ≡ true) more
    → Holds slots hash these → Holds (fold put slots more) hash (these ++ more)
holds_puts slots [] hash these room used holds = subst (Holds slots hash) (sym (append-nil these)) holds
holds_puts slots (slot ∷ more) hash these room used holds =
    subst (Holds (fold put slots (slot ∷ more)) hash) (append_assoc these (slot ∷ []) more)
    (holds_puts (put slots slot) more hash (these ++ slot ∷ []) (omega (arith, count_put slots slot, length_put slots slot))
    (All-tail (λ s. is_used s ≡ true) slot more used)
    (holds_put slots slot hash these (omega arith) (All-head (λ s. is_used s ≡ true) slot more used) holds))

holds_none : (n hash : ℕ) → Holds (replicate n empty) hash []
holds_none n hash =
    let test = is_of_hash hash in
    let start = tried (replicate n empty) hash in
    let none : filter test start ≡ [] = none_pass test start (λ k d low.
    let size : length (replicate n empty) ≡ n = length-replicate n empty in
    let within : k < length (replicate n empty) = omega (arith, length_tried (replicate n empty) hash) in
    let inside : (hash / 256 + k) % length (replicate n empty) < n =
    omega (arith, mod_below (hash / 256 + k) (length (replicate n empty)) (omega arith)) in
    ap test (get_tried (replicate n empty) hash k d within ∙ get_or-replicate n _ empty empty inside)) in
    record { settled = none_settled is_used test start none; same = none }

pub holds_filled : (placed : List Slot) (hash : ℕ) → All (λ s. is_used s ≡ true) placed → Holds (filled placed) hash placed
unfolding filled
holds_filled placed hash used =
    holds_puts (replicate (2 * length placed) empty) placed hash []
    (omega (arith, count_empty (2 * length placed), length-replicate (2 * length placed) empty)) used (holds_none (2 * length placed) hash)

all_used : (slots : List Slot) → All (λ s. is_used s ≡ true) (take_while is_used slots)
all_used slots k d low = let prefix = used_prefix slots k d low in ap is_used prefix.1 ∙ prefix.2

-- what is looked for, of one hash, is found in the table as among the slots that were put
pub found_filled : (placed : List Slot) (hash : ℕ) (p : Slot → Bool) → All (λ s. is_used s ≡ true) placed
    → ((s : Slot) → is_used s ≡ true → p s ≡ true → is_of_hash hash s ≡ true) → find p (reached (filled placed) hash) ≡ find p placed
found_filled placed hash p used implies =
    let holds = holds_filled placed hash used in
    let test = is_of_hash hash in
    let prefix = reached (filled placed) hash in
    sym (find_filter p test prefix (λ k d low. implies (get_or prefix k d) (all_used (tried (filled placed) hash) k d low)))
    ∙ ap (find p) (holds.settled ∙ holds.same)
    ∙ find_filter p test placed (λ k d low. implies (get_or placed k d) (used k d low))
