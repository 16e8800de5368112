-- Where a slot is put, and what holds of all slots of a table that is filled.
use Rattle.std.proofs.Common.{◌≡◌, ◌+◌, ◌*◌, ◌/◌, ◌%◌, ◌<◌, ◌≤◌, ℕ, true, false, List, [], ◌∷◌, length, get_or, replicate, ap, ◌∙◌, sym, arith, ⊎_elim}
use Rattle.std.specs.List.{All, count_by, fold, prefix_len}
use Rattle.std.proofs.lemmas.Bool.{cases_lt}
use Rattle.std.proofs.lemmas.List.Elements.{All-head, All-replicate, All-set, All-tail}
use Rattle.std.proofs.lemmas.List.Sums.{prefix_len_passes, prefix_len_stops}
use Rattle.pf_cdb.proofs.PlaceLaws.{all_used}
use Rattle.pf_cdb.proofs.SearchLaws.{get_tried, length_tried}
use Rattle.pf_cdb.specs.Clauses.Gathered.{step_slot}
use Rattle.pf_cdb.specs.Held.{empty, is_used, tried}
use Rattle.pf_cdb.specs.Written.{filled, put}
use Rattle.pf_cdb.specs.declared.layout.Slot.{Slot}

-- the step and the place at which a slot is put
abbrev pub free_step : List Slot → ℕ → ℕ
free_step slots hash = prefix_len is_used (tried slots hash)

abbrev pub free_place : List Slot → ℕ → ℕ
free_place slots hash = (hash / 256 + free_step slots hash) % length slots

used_before : (slots : List Slot) (hash k : ℕ) → k < length slots → k < free_step slots hash → is_used (step_slot slots hash k) ≡ true
used_before slots hash k low less =
    ap is_used (sym (get_tried slots hash k empty low)) ∙ prefix_len_passes is_used (tried slots hash) k empty less

pub free_low : (slots : List Slot) (hash : ℕ) → count_by is_used slots < length slots → free_step slots hash < length slots
free_low slots hash room =
    ⊎_elim {A = free_step slots hash < length slots} {B = length slots ≤ free_step slots hash}
    (λ low. low)
    (λ past. absurd (omega (arith, all_used slots hash (λ k low. used_before slots hash k low (omega arith)))))
    (cases_lt (free_step slots hash) (length slots))

pub is_free : (slots : List Slot) (hash : ℕ) → count_by is_used slots < length slots → is_used (get_or slots (free_place slots hash) empty) ≡ false
is_free slots hash room =
    let low = free_low slots hash room in
    let within : free_step slots hash < length (tried slots hash) = omega (arith, length_tried slots hash) in
    ap is_used (sym (get_tried slots hash (free_step slots hash) empty low)) ∙ prefix_len_stops is_used (tried slots hash) empty within

-- what holds of the empty slot and of each slot that is put holds of the whole table
all_put : (P : Slot → Type 0) (slots : List Slot) (slot : Slot) → P slot → All P slots → All P (put slots slot)
unfolding put
all_put P slots slot this have = All-set P slots _ slot this have

all_puts : (P : Slot → Type 0) (slots more : List Slot) → All P slots → All P more → All P (fold put slots more)
all_puts P slots [] have more = have
all_puts P slots (slot ∷ rest) have more =
    all_puts P (put slots slot) rest (all_put P slots slot (All-head P slot rest more) have) (All-tail P slot rest more)

pub All-filled : (P : Slot → Type 0) (slots : List Slot) → P empty → All P slots → All P (filled slots)
unfolding filled
All-filled P slots none have = all_puts P (replicate (2 * length slots) empty) slots (All-replicate P (2 * length slots) empty none) have
