-- One pair more in a file to which pairs are added, and the file that is finished.
use Rattle.std.proofs.Common.{◌≡◌, ◌+◌, ◌*◌, ◌<◌, ◌≤◌, ℕ, Result, Ok, Err, List, [], ◌∷◌, ◌++◌, length, map, take, drop, get_or, replicate, refl, ap, ◌∙◌, sym, arith}
use Rattle.std.specs.Prelude.{IfOk}
use Rattle.std.specs.List.{flat_map, sum_by}
use Rattle.std.proofs.lemmas.List.{append-nil, append_assoc, drop_at, length-append, length-map, length-replicate}
use Rattle.std.proofs.lemmas.List.Sums.{sum_by-cons}
use Rattle.pf_base.specs.declared.pair.Pair.{Pair}
use Rattle.pf_cdb.proofs.BucketLaws.{length_by_table, placed_push}
use Rattle.pf_cdb.proofs.FileLaws.{length_header, length_record, length_records}
use Rattle.pf_cdb.proofs.RecordLaws.{RecordsStand, pairs_read}
use Rattle.pf_cdb.proofs.SizeLaws.{entry_size, length_placed, size_of_tables, size_written, sixteen, too_large_at}
use Rattle.pf_cdb.specs.Clauses.Adding.{IsPrefix, prefix_of, pairs_at}
use Rattle.pf_cdb.specs.Hash.{hash_of}
use Rattle.pf_cdb.specs.Written.{by_table, filled, header_bytes, placed, record_bytes, record_size, records_end, table_bytes, tables_of, tables_size, written}
use Rattle.pf_cdb.specs.declared.layout.Slot.{Slot}

flat_more : {X : Type 0} (f : X → List ℕ) (xs : List X) (y : X) → flat_map f (xs ++ y ∷ []) ≡ flat_map f xs ++ f y
flat_more f [] y = append-nil (f y)
flat_more f (x ∷ xs) y = ap (λ l. f x ++ l) (flat_more f xs y) ∙ sym (append_assoc (f x) (flat_map f xs) (f y))

sum_more : {X : Type 0} (f : X → ℕ) (xs : List X) (y : X) → sum_by f (xs ++ y ∷ []) ≡ sum_by f xs + f y
sum_more f [] y = omega (arith, sum_by-cons f y [])
sum_more f (x ∷ xs) y = omega (arith, sum_by-cons f x (xs ++ y ∷ []), sum_by-cons f x xs, sum_more f xs y)

length_prefix : (pairs : List Pair) → length (prefix_of pairs) ≡ 2048 + sum_by record_size pairs
unfolding prefix_of
length_prefix pairs =
    omega (arith, length-append (replicate 2048 0) (flat_map record_bytes pairs), length-replicate {A = ℕ} 2048 0, length_records pairs)

behind_prefix : (pairs : List Pair) → drop 2048 (prefix_of pairs) ≡ flat_map record_bytes pairs
unfolding prefix_of
behind_prefix pairs = drop_at (replicate 2048 0) (flat_map record_bytes pairs) 2048 (length-replicate {A = ℕ} 2048 0)

prefix_more : (pairs : List Pair) (pair : Pair) → prefix_of pairs ++ record_bytes pair ≡ prefix_of (pairs ++ pair ∷ [])
unfolding prefix_of
prefix_more pairs pair =
    append_assoc (replicate 2048 0) (flat_map record_bytes pairs) (record_bytes pair)
    ∙ ap (λ l. replicate 2048 0 ++ l) (sym (flat_more record_bytes pairs pair))

-- a file without a pair
pub prefix_new : (file : List ℕ) → file ≡ replicate 2048 0 → IsPrefix file []
unfolding prefix_of
prefix_new file is = record {
  bytes = is ∙ sym (append-nil (replicate 2048 0));
  all = refl;
  fits = omega (arith, ap length is, length-replicate {A = ℕ} 2048 0);
}

-- the pairs of a prefix are read again
stand : (file : List ℕ) (pairs : List Pair) → file ≡ prefix_of pairs → length file ≤ 67108864 → RecordsStand file 2048 pairs
stand file pairs is fits = record {
  prefix = omega arith;
  whole = omega (arith, ap length is, length_prefix pairs);
  fits = fits;
  stand = record { rest = []; is = ap (drop 2048) is ∙ behind_prefix pairs ∙ sym (append-nil (flat_map record_bytes pairs)) };
}

-- the size of the file for the pairs
pub size_prefix : (file : List ℕ) (slots : List Slot) → IsPrefix file slots → length (written (pairs_at file slots)) ≡ length file + 16 * length slots
size_prefix file slots is =
    let pairs = pairs_at file slots in
    let count : length slots ≡ length pairs = ap length is.all ∙ length_placed 2048 pairs in
    omega (arith, size_written pairs, sixteen pairs, ap length is.bytes, length_prefix pairs, count)

size_more : (file : List ℕ) (slots : List Slot) (pair : Pair) → IsPrefix file slots
    → length (written (pairs_at file slots ++ pair ∷ [])) ≡ length file + 16 * length slots + (record_size pair + 16)
size_more file slots pair is =
    let pairs = pairs_at file slots in
    omega (arith, size_prefix file slots is, size_written pairs, size_written (pairs ++ pair ∷ []), sum_more entry_size pairs pair)

abbrev slot_at : ℕ → Pair → Slot
slot_at at pair = record { hash = hash_of pair.key; at = at }

pub record More (file next : List ℕ) (slots there : List Slot) (pair : Pair) : Type 0 where
  pub pairs : pairs_at next there ≡ pairs_at file slots ++ pair ∷ []
  pub prefix : IsPrefix next there

one_more : (file : List ℕ) (slots : List Slot) (pair : Pair) → IsPrefix file slots → length file + 16 * length slots + (record_size pair + 16) ≤ 67108864
    → More file (file ++ record_bytes pair) slots (slots ++ slot_at (length file) pair ∷ []) pair
one_more file slots pair is fits =
    let pairs = pairs_at file slots in
    let all = pairs ++ pair ∷ [] in
    let next = file ++ record_bytes pair in
    let there = slots ++ slot_at (length file) pair ∷ [] in
    let size : length file ≡ 2048 + sum_by record_size pairs = ap length is.bytes ∙ length_prefix pairs in
    let bytes : next ≡ prefix_of all = ap (λ l. l ++ record_bytes pair) is.bytes ∙ prefix_more pairs pair in
    let low : length next + 16 * length there ≤ 67108864 =
    omega (arith, length-append file (record_bytes pair), length_record pair, length-append slots (slot_at (length file) pair ∷ []), fits) in
    let slots_are : there ≡ placed 2048 all =
    ap (λ l. l ++ slot_at (length file) pair ∷ []) is.all
    ∙ ap (λ n. placed 2048 pairs ++ slot_at n pair ∷ []) size
    ∙ sym (placed_push 2048 pairs pair) in
    let read : pairs_at next there ≡ all = ap (pairs_at next) slots_are ∙ pairs_read next 2048 all (stand next all bytes (omega (arith, low))) in
    record {
      pairs = read;
      prefix = record { bytes = bytes ∙ ap prefix_of (sym read); all = slots_are ∙ ap (placed 2048) (sym read); fits = low };
    }

pub added : (file next : List ℕ) (slots there : List Slot) (at records hash : ℕ) (pair : Pair) → IsPrefix file slots → at ≡ length file
    → records ≡ length slots → hash ≡ hash_of pair.key → at + 16 * records + (8 + length pair.key + length pair.value + 16) ≤ 67108864
    → next ≡ file ++ record_bytes pair → there ≡ slots ++ record { hash = hash; at = at } ∷ [] → More file next slots there pair
added file next slots there at records hash pair is end count hashed fits record_is slot_is =
    let more = one_more file slots pair is (omega (arith, end, count, fits)) in
    let there_is : there ≡ slots ++ slot_at (length file) pair ∷ [] =
    slot_is ∙ ap (λ n. slots ++ record { hash = n; at = at } ∷ []) hashed ∙ ap (λ n. slots ++ slot_at n pair ∷ []) end in
    rw (record_is, there_is) more

pub too_large : (file : List ℕ) (slots : List Slot) (at records : ℕ) (pair : Pair) → IsPrefix file slots → at ≡ length file → records ≡ length slots
    → 67108864 < at + 16 * records + (8 + length pair.key + length pair.value + 16) → 67108864 < length (written (pairs_at file slots ++ pair ∷ []))
too_large file slots at records pair is end count over = omega (arith, end, count, over, size_more file slots pair is)

pub not_large : (file : List ℕ) (slots : List Slot) (at records : ℕ) (pair : Pair) → IsPrefix file slots → at ≡ length file → records ≡ length slots
    → at + 16 * records + (8 + length pair.key + length pair.value + 16) ≤ 67108864 → length (written (pairs_at file slots ++ pair ∷ [])) ≤ 67108864
not_large file slots at records pair is end count fits = omega (arith, end, count, fits, size_more file slots pair is)

-- where a prefix of the pairs is too large all of them are
pub large_more : (entries writer : List Pair) (i : ℕ) (pair : Pair) (key value : List ℕ) → i < length entries → pair ≡ get_or entries i pair → writer ≡ take i entries
    → key ≡ pair.key → value ≡ pair.value → 67108864 < length (written (writer ++ record { key = key; value = value } ∷ [])) → 67108864 < length (written entries)
large_more entries writer i pair key value low is prefix key_is value_is over =
    let more : Pair = record { key = key; value = value } in
    too_large_at entries i pair (length (written writer)) low is (ap (λ l. length (written l)) prefix ∙ size_written (take i entries))
    (omega (arith, over, size_written writer, size_written (writer ++ more ∷ []), sum_more entry_size writer more, ap length key_is, ap length value_is))

-- the tables for the slots have room
tables_are : (file : List ℕ) (slots : List Slot) (ts : List (List Slot)) → IsPrefix file slots → ts ≡ map filled (by_table slots) → ts ≡ tables_of (pairs_at file slots)
tables_are file slots ts is are = are ∙ ap (λ l. map filled (by_table l)) is.all

pub tables_fit : (file : List ℕ) (slots : List Slot) (ts : List (List Slot)) → IsPrefix file slots → ts ≡ map filled (by_table slots)
    → length file + tables_size ts ≤ 67108864
tables_fit file slots ts is are = omega (arith, is.fits, ap tables_size are, size_of_tables slots)

length_all : (slots : List Slot) → length (map filled (by_table slots)) ≡ 256
length_all slots = length-map (by_table slots) filled ∙ length_by_table slots

-- the header has the size of its room
pub header_size : (slots : List Slot) (ts : List (List Slot)) (start : ℕ) (none header : List ℕ) → ts ≡ map filled (by_table slots) → none ≡ []
    → header ≡ none ++ header_bytes start ts → length header ≡ 2048
header_size slots ts start none header are new is =
    let e : header ≡ header_bytes start ts = is ∙ ap (λ l. l ++ header_bytes start ts) new in
    omega (arith, ap length e, length_header start ts, ap length are, length_all slots)

pub header_fits : (file : List ℕ) (slots : List Slot) (header : List ℕ) → IsPrefix file slots → length header ≡ 2048 → length header ≤ length file
header_fits file slots header is size = omega (arith, size, ap length is.bytes, length_prefix (pairs_at file slots))

-- the header is put in its room, and the tables after the records
pub finished_is : (file : List ℕ) (slots : List Slot) (ts us : List (List Slot)) (start : ℕ) (none header head prefix whole : List ℕ) → IsPrefix file slots
    → ts ≡ map filled (by_table slots) → us ≡ map filled (by_table slots) → start ≡ length file → none ≡ [] → header ≡ none ++ header_bytes start ts
    → head ≡ header → prefix ≡ head ++ drop (length head) file → whole ≡ prefix ++ flat_map table_bytes us → whole ≡ written (pairs_at file slots)
unfolding written
finished_is file slots ts us start none header head prefix whole is are us_are at new header_is head_is prefix_is whole_is =
    let pairs = pairs_at file slots in
    let records = flat_map record_bytes pairs in
    let end : start ≡ records_end pairs = at ∙ ap length is.bytes ∙ length_prefix pairs in
    let bytes : header ≡ header_bytes (records_end pairs) (tables_of pairs) =
    header_is ∙ ap (λ l. l ++ header_bytes start ts) new ∙ ap (λ n. header_bytes n ts) end
    ∙ ap (header_bytes (records_end pairs)) (tables_are file slots ts is are) in
    let rest : drop (length header) file ≡ records =
    ap (λ n. drop n file) (header_size slots ts start none header are new header_is) ∙ ap (drop 2048) is.bytes ∙ behind_prefix pairs in
    whole_is
    ∙ ap (λ l. l ++ flat_map table_bytes us) (prefix_is ∙ ap (λ h. h ++ drop (length h) file) head_is ∙ ap (λ l. header ++ l) rest)
    ∙ append_assoc header records (flat_map table_bytes us)
    ∙ ap (λ l. l ++ (records ++ flat_map table_bytes us)) bytes
    ∙ ap (λ t. header_bytes (records_end pairs) (tables_of pairs) ++ (records ++ flat_map table_bytes t)) (tables_are file slots us is us_are)

-- what holds of the file that is written for the pairs holds of the answer
pub if_finished : {E : Type 0} (pairs : List Pair) (P : List ℕ → Type 0) (r : Result (List ℕ) E) → IfOk r (λ file. file ≡ written pairs) → P (written pairs) → IfOk r P
if_finished pairs P (Ok file) is holds = rw is holds
if_finished pairs P (Err fault) is holds = tt
