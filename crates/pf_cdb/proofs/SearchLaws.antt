-- A search step by step: what is held for a key is what the slots from the next step on give.
use Rattle.std.proofs.Common.{◌≡◌, ◌≢◌, ◌+◌, ◌/◌, ◌%◌, ◌<◌, ◌≤◌, ℕ, Bool, true, false, cond, List, [], ◌∷◌, Option, Some, None, length, drop, get_or, refl, ap, ◌∙◌, sym, arith, ⊎_elim}
use Rattle.std.specs.List.{find}
use Rattle.std.specs.Prelude.{take_while}
use Rattle.std.specs.Option.{option_map}
use Rattle.std.proofs.lemmas.Bool.{cases_eq, eq-eqb, ne_eqb}
use Rattle.std.proofs.lemmas.List.{drop_all, drop_more}
use Rattle.std.proofs.lemmas.List.FromFn.{get_or-map-range_with_len, length-map-range_with_len}
use Rattle.std.proofs.lemmas.List.Sums.{take_while-cons}
use Rattle.std.proofs.lemmas.Nat.{mod_below}
use Rattle.pf_cdb.specs.Clauses.Searching.{look_at}
use Rattle.pf_cdb.specs.Hash.{hash_of}
use Rattle.pf_cdb.specs.Held.{empty, has_key, held, is_used, tried}
use Rattle.pf_cdb.specs.Layout.{slot_of, slots_in, table_of}
use Rattle.pf_cdb.specs.declared.layout.Slot.{Slot}
use Rattle.pf_cdb.specs.declared.search.Look.{Look}
use Rattle.pf_cdb.specs.declared.search.Look.TheVariants.{Empty, Found, Other}

-- the place of the first slot that has the key, up to an empty one
unfoldable pub sought : List ℕ → List ℕ → List Slot → Option ℕ
sought file key slots = option_map (λ slot. slot.at) (find (has_key file key) (take_while is_used slots))

-- what the slots from a step on give
unfoldable pub left : List ℕ → List ℕ → ℕ → ℕ → Option ℕ
left file key hash step = sought file key (drop step (tried (table_of file (hash % 256)) hash))

pub left_start : (file key : List ℕ) → left file key (hash_of key) 0 ≡ held file key
unfolding left sought held
left_start file key = refl

pub sought_none : (file key : List ℕ) → sought file key [] ≡ None
unfolding sought
sought_none file key = refl

pub sought_empty : (file key : List ℕ) (slot : Slot) (slots : List Slot) → slot.at ≡ 0 → sought file key (slot ∷ slots) ≡ None
unfolding sought
sought_empty file key slot slots e = rw e refl

pub used_is : (slot : Slot) → slot.at ≢ 0 → is_used slot ≡ true
used_is slot used = rw (ne_eqb slot.at 0 used) refl

map_cond : {X Y : Type 0} (f : X → Y) (b : Bool) (x : X) (o : Option X) → option_map f (cond b (Some x) o) ≡ cond b (Some (f x)) (option_map f o)
map_cond f true x o = refl
map_cond f false x o = refl

pub sought_used : (file key : List ℕ) (slot : Slot) (slots : List Slot) → slot.at ≢ 0
    → sought file key (slot ∷ slots) ≡ cond (has_key file key slot) (Some slot.at) (sought file key slots)
unfolding sought
sought_used file key slot slots used =
    ap (λ l. option_map (λ s. s.at) (find (has_key file key) l))
    (take_while-cons is_used slot slots ∙ ap (λ b. cond b (slot ∷ take_while is_used slots) []) (used_is slot used))
    ∙ map_cond (λ s. s.at) (has_key file key slot) slot (find (has_key file key) (take_while is_used slots))

-- the slots of a table
pub length_table : (file : List ℕ) (table : ℕ) → length (table_of file table) ≡ slots_in file table
unfolding table_of
length_table file table = length-map-range_with_len (slot_of file table) 0 (slots_in file table)

pub get_table : (file : List ℕ) (table i : ℕ) (d : Slot) → i < slots_in file table → get_or (table_of file table) i d ≡ slot_of file table i
unfolding table_of
get_table file table i d h = get_or-map-range_with_len (slot_of file table) 0 (slots_in file table) i i d h (omega arith)

pub length_tried : (slots : List Slot) (hash : ℕ) → length (tried slots hash) ≡ length slots
unfolding tried
length_tried slots hash = length-map-range_with_len _ 0 (length slots)

pub get_tried : (slots : List Slot) (hash step : ℕ) (d : Slot) → step < length slots
    → get_or (tried slots hash) step d ≡ get_or slots ((hash / 256 + step) % length slots) empty
unfolding tried
get_tried slots hash step d h = get_or-map-range_with_len _ 0 (length slots) step step d h (omega arith)

pub tried_next : (file : List ℕ) (table hash step : ℕ) → step < slots_in file table
    → drop step (tried (table_of file table) hash)
    ≡ slot_of file table ((hash / 256 + step) % slots_in file table) ∷ drop (step + 1) (tried (table_of file table) hash)
tried_next file table hash step h =
    let len = length_table file table in
    let at : step < length (table_of file table) = omega arith in
    let within : step < length (tried (table_of file table) hash) = omega (arith, length_tried (table_of file table) hash) in
    let low : (hash / 256 + step) % slots_in file table < slots_in file table = mod_below _ _ (omega arith) in
    drop_more (tried (table_of file table) hash) step empty within
    ∙ ap (λ slot. slot ∷ drop (step + 1) (tried (table_of file table) hash))
    (get_tried (table_of file table) hash step empty at
    ∙ ap (λ n. get_or (table_of file table) ((hash / 256 + step) % n) empty) len
    ∙ get_table file table _ empty low)

-- the slot that a hash tries at a step, in the table of the hash
abbrev pub slot_tried : List ℕ → ℕ → ℕ → Slot
slot_tried file hash step = slot_of file (hash % 256) ((hash / 256 + step) % slots_in file (hash % 256))

pub left_empty : (file key : List ℕ) (hash step : ℕ) → step < slots_in file (hash % 256) → (slot_tried file hash step).at ≡ 0
    → left file key hash step ≡ None
unfolding left
left_empty file key hash step h e = ap (sought file key) (tried_next file (hash % 256) hash step h) ∙ sought_empty file key _ _ e

pub left_used : (file key : List ℕ) (hash step : ℕ) → step < slots_in file (hash % 256) → (slot_tried file hash step).at ≢ 0
    → left file key hash step
    ≡ cond (has_key file key (slot_tried file hash step)) (Some (slot_tried file hash step).at) (left file key hash (step + 1))
unfolding left
left_used file key hash step h used =
    ap (sought file key) (tried_next file (hash % 256) hash step h) ∙ sought_used file key (slot_tried file hash step) _ used

pub left_done : (file key : List ℕ) (hash step : ℕ) → slots_in file (hash % 256) ≤ step → left file key hash step ≡ None
unfolding left
left_done file key hash step h =
    let len : length (tried (table_of file (hash % 256)) hash) ≤ step =
    omega (arith, length_tried (table_of file (hash % 256)) hash, length_table file (hash % 256)) in
    ap (sought file key) (drop_all step (tried (table_of file (hash % 256)) hash) len) ∙ sought_none file key

-- what a search gives, after what it came to at a slot, where the later slots give a rest
abbrev pub after : Look → ℕ → Option ℕ → Option ℕ
after Empty at rest = None
after Found at rest = Some at
after Other at rest = rest

choose : (b : Bool) (at : ℕ) (rest : Option ℕ) → cond b (Some at) rest ≡ after (cond b Found Other) at rest
choose true at rest = refl
choose false at rest = refl

not_used : (slot : Slot) → slot.at ≡ 0 → is_used slot ≡ false
not_used slot e = rw (eq-eqb slot.at 0 e) refl

left_after : (file key : List ℕ) (hash step : ℕ) → step < slots_in file (hash % 256)
    → left file key hash step
    ≡ after (look_at file key (slot_tried file hash step)) (slot_tried file hash step).at (left file key hash (step + 1))
unfolding look_at
left_after file key hash step within =
    let slot = slot_tried file hash step in
    let rest = left file key hash (step + 1) in
    ⊎_elim {A = slot.at ≡ 0} {B = slot.at ≢ 0}
    (λ e. left_empty file key hash step within e
    ∙ ap (λ b. after (cond b (cond (has_key file key slot) Found Other) Empty) slot.at rest) (sym (not_used slot e)))
    (λ used. left_used file key hash step within used
    ∙ choose (has_key file key slot) slot.at rest
    ∙ ap (λ b. after (cond b (cond (has_key file key slot) Found Other) Empty) slot.at rest) (sym (used_is slot used)))
    (cases_eq slot.at 0)

-- the same of a slot that was read, where its table, their number and its place were
slot_read : (file : List ℕ) (hash table i step slots : ℕ) (slot : Slot) → table ≡ hash % 256 → slots ≡ slots_in file table
    → i ≡ (hash / 256 + step) % slots → slot ≡ slot_of file table i → slot ≡ slot_tried file hash step
slot_read file hash table i step slots slot of_hash count place read =
    read
    ∙ ap (slot_of file table) (place ∙ ap (λ n. (hash / 256 + step) % n) count)
    ∙ ap (λ t. slot_of file t ((hash / 256 + step) % slots_in file t)) of_hash

pub turn : (file key : List ℕ) (hash table i step slots : ℕ) (slot : Slot) (look : Look) → table ≡ hash % 256 → slots ≡ slots_in file table
    → i ≡ (hash / 256 + step) % slots → slot ≡ slot_of file table i → step < slots → look ≡ look_at file key slot
    → left file key hash step ≡ after look slot.at (left file key hash (step + 1))
turn file key hash table i step slots slot look of_hash count place read within seen =
    let is = slot_read file hash table i step slots slot of_hash count place read in
    let low : step < slots_in file (hash % 256) = omega (arith, within, count, ap (slots_in file) of_hash) in
    left_after file key hash step low
    ∙ ap (λ s. after (look_at file key s) s.at (left file key hash (step + 1))) (sym is)
    ∙ ap (λ l. after l slot.at (left file key hash (step + 1))) (sym seen)
