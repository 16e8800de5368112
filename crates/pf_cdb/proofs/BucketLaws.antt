-- The slots of the records, gathered in a list for each table.
use Rattle.std.proofs.Common.{◌≡◌, ◌≢◌, ◌+◌, ◌%◌, ◌<◌, ℕ, cond, List, [], ◌∷◌, ◌++◌, length, map, take, get_or, set, replicate, refl, ap, ◌∙◌, sym, arith, ⊎_elim}
use Rattle.std.specs.List.{filter, sum_by}
use Rattle.std.proofs.lemmas.Bool.{cases_eq, eq-eqb, ne_eqb}
use Rattle.std.proofs.lemmas.List.{append-nil, get_or-map, get_or-set_other, get_or-set_same, length-set, map-set, same_lists, take_more}
use Rattle.std.proofs.lemmas.List.Elements.{filter-append}
use Rattle.std.proofs.lemmas.List.FromFn.{get_or-map-range_with_len, length-map-range_with_len}
use Rattle.std.proofs.lemmas.List.Sums.{sum_by-cons}
use Rattle.std.proofs.lemmas.Nat.{mod_below}
use Rattle.pf_base.specs.declared.pair.Pair.{Pair}
use Rattle.pf_cdb.specs.Clauses.Gathered.{with_slot}
use Rattle.pf_cdb.specs.Hash.{hash_of}
use Rattle.pf_cdb.specs.Written.{by_table, is_of_table, of_table, placed, record_size}
use Rattle.pf_cdb.specs.declared.layout.Slot.{Slot}

pub by_table_none : by_table [] ≡ replicate 256 []
unfolding by_table
by_table_none = refl

pub length_by_table : (slots : List Slot) → length (by_table slots) ≡ 256
unfolding by_table
length_by_table slots = length-map-range_with_len (of_table slots) 0 256

pub get_by_table : (slots : List Slot) (table : ℕ) (d : List Slot) → table < 256 → get_or (by_table slots) table d ≡ of_table slots table
unfolding by_table
get_by_table slots table d low = get_or-map-range_with_len (of_table slots) 0 256 table table d low (omega arith)

-- a vector that grew by a slot: v was at the place of the slot's table, w is there now
pub with_slot_is : {V : Type 0} (f : V → List Slot) (vs : List V) (v w : V) (slot : Slot) → slot.hash % 256 < length vs
    → v ≡ get_or vs (slot.hash % 256) v → f w ≡ f v ++ slot ∷ [] → map f (set vs (slot.hash % 256) w) ≡ with_slot (map f vs) slot
with_slot_is f vs v w slot low at grew =
    map-set f vs (slot.hash % 256) w
    ∙ ap (λ l. set (map f vs) (slot.hash % 256) l)
    (grew ∙ ap (λ x. f x ++ slot ∷ []) at ∙ ap (λ l. l ++ slot ∷ []) (sym (get_or-map f vs (slot.hash % 256) v [] low)))

-- in the lists of all tables the slot is at the end of its own
pub by_table_more : (slots : List Slot) (slot : Slot) → with_slot (by_table slots) slot ≡ by_table (slots ++ slot ∷ [])
by_table_more slots slot =
    let t = slot.hash % 256 in
    let low : t < 256 = mod_below slot.hash 256 (omega arith) in
    let within : t < length (by_table slots) = omega (arith, length_by_table slots) in
    same_lists (with_slot (by_table slots) slot) (by_table (slots ++ slot ∷ []))
    (length-set (by_table slots) t _ ∙ length_by_table slots ∙ sym (length_by_table (slots ++ slot ∷ [])))
    (λ k d less.
    let below : k < 256 = omega (arith, length-set (by_table slots) t (get_or (by_table slots) t [] ++ slot ∷ []), length_by_table slots) in
    let after : get_or (by_table (slots ++ slot ∷ [])) k d ≡ of_table slots k ++ filter (is_of_table k) (slot ∷ []) =
    get_by_table (slots ++ slot ∷ []) k d below ∙ filter-append (is_of_table k) slots (slot ∷ []) in
    ⊎_elim {A = t ≡ k} {B = t ≢ k}
    (λ same.
    ap (λ n. get_or (set (by_table slots) t (get_or (by_table slots) t [] ++ slot ∷ [])) n d) (sym same)
    ∙ get_or-set_same (by_table slots) t (get_or (by_table slots) t [] ++ slot ∷ []) d within
    ∙ ap (λ l. l ++ slot ∷ []) (get_by_table slots t [] low)
    ∙ ap (λ n. of_table slots n ++ slot ∷ []) same
    ∙ ap (λ b. of_table slots k ++ cond b (slot ∷ []) []) (sym (eq-eqb t k same))
    ∙ sym after)
    (λ apart.
    get_or-set_other (by_table slots) t k (get_or (by_table slots) t [] ++ slot ∷ []) d (λ e. apart (sym e))
    ∙ get_by_table slots k d below
    ∙ sym (append-nil (of_table slots k))
    ∙ ap (λ b. of_table slots k ++ cond b (slot ∷ []) []) (sym (ne_eqb t k apart))
    ∙ sym after)
    (cases_eq t k))

-- the record after those that are placed
pub placed_push : (at : ℕ) (pairs : List Pair) (pair : Pair)
    → placed at (pairs ++ pair ∷ []) ≡ placed at pairs ++ record { hash = hash_of pair.key; at = at + sum_by record_size pairs } ∷ []
placed_push at [] pair = ap (λ n. record { hash = hash_of pair.key; at = n } ∷ []) (omega arith)
placed_push at (first ∷ pairs) pair =
    let sum : at + record_size first + sum_by record_size pairs ≡ at + sum_by record_size (first ∷ pairs) =
    omega (arith, sum_by-cons record_size first pairs) in
    ap (λ l. record { hash = hash_of first.key; at = at } ∷ l)
    (placed_push (at + record_size first) pairs pair
    ∙ ap (λ n. placed (at + record_size first) pairs ++ record { hash = hash_of pair.key; at = n } ∷ []) sum)

-- one slot more
pub slots_more : (slots : List Slot) (i : ℕ) (d : Slot) → i < length slots → with_slot (by_table (take i slots)) (get_or slots i d) ≡ by_table (take (i + 1) slots)
slots_more slots i d low = by_table_more (take i slots) (get_or slots i d) ∙ ap by_table (sym (take_more slots i d low))
