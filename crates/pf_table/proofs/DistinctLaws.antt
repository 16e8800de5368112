-- Entries with distinct keys: their pairs stay as they are, and none is repeated.
use Rattle.std.proofs.Common.{◌≡◌, ◌≢◌, ◌<◌, ◌++◌, ℕ, suc, Bool, true, false, List, [], ◌∷◌, None, is_some, Result, Ok, Err, length, map, get_or, refl, sym, ap, ◌∙◌, if◌then◌else◌, append_assoc, append-nil, arith, length-append}
use Rattle.std.proofs.lemmas.List.{get_or_at}
use Rattle.std.proofs.lemmas.Slice.Eq.{bytes_eq-Decides}
use Rattle.std.specs.List.{AllPairs, fold}
use Rattle.std.specs.Str.{bytes_eq}
use Rattle.pf_base.specs.Text.Logical.{grouped, physical_lines}
use Rattle.pf_base.specs.Results.{◌>>=◌}
use Rattle.pf_base.specs.declared.text.logical.Logical.{Logical}
use Rattle.pf_base.specs.declared.pair.Pair.{Pair}
use Rattle.pf_base.specs.declared.refused.Refused.{Refused}
use Rattle.pf_table.proofs.IndexLaws.{has_index, push_is}
use Rattle.pf_table.specs.Clauses.Keeping.{index_of, keys_of}
use Rattle.pf_table.specs.Pairs.{has_key}
use Rattle.pf_table.specs.Text.{Entry, entries_in, lines_in, lines_of, lines_read, no_entries, repeated_in, table_with, text_read, with_entry}
use Rattle.pf_table.specs.declared.pairs.Repeats.{Repeats}
use Rattle.pf_table.specs.declared.text.Repeated.{Repeated}

abbrev pub AreDistinct : List Pair → Type 0
AreDistinct pairs = AllPairs (λ a b. a.key ≢ b.key) pairs

abbrev pub pairs_in : List Entry → List Pair
pairs_in entries = map (λ entry. entry.pair) entries

-- a key after others is none of them
new_key : (done : List Pair) (pair : Pair) (more : List Pair) → AreDistinct (done ++ pair ∷ more) → index_of pair.key (keys_of done) ≡ None
new_key [] pair more distinct = refl
new_key (first ∷ done) pair more distinct =
    rw (differs, new_key done pair more (λ i j d order within. distinct (suc i) (suc j) d (omega (arith, order)) (omega (arith, within)))) refl
  where
    there : get_or (first ∷ (done ++ pair ∷ more)) (suc (length done)) pair ≡ pair
    there = get_or_at (first ∷ done) pair more pair (suc (length done)) refl

    within : suc (length done) < length (first ∷ (done ++ pair ∷ more))
    within = omega (arith, length-append done (pair ∷ more))

    other : first.key ≢ pair.key
    other e = distinct 0 (suc (length done)) pair (omega arith) within (rw there e)

    differs : bytes_eq pair.key first.key ≡ false
    differs = (elim (bytes_eq pair.key first.key) as (λ t. bytes_eq pair.key first.key ≡ t → t ≡ false) [
      | true ↦ λ e. absurd (other (sym ((bytes_eq-Decides pair.key first.key).0 e)))
      | false ↦ λ e. refl
    ]) refl

-- one entry more
entry_more : (repeats : Repeats) (done : List Pair) (repeated : List Repeated) (entry : Entry) → index_of entry.pair.key (keys_of done) ≡ None
    → with_entry repeats (record { pairs = done; repeated = repeated }) entry ≡ record { pairs = done ++ entry.pair ∷ []; repeated = repeated }
entry_more repeats done repeated entry new =
    let has : has_key done entry.pair.key ≡ false = has_index done entry.pair.key ∙ ap is_some new in
    ap (λ pairs. record { pairs = pairs; repeated = repeated ++ repeated_in done entry }) (push_is repeats done entry.pair new)
    ∙ ap (λ (h : Bool). record { pairs = done ++ entry.pair ∷ []; repeated = repeated ++ (if h then record { line = entry.line; key = entry.pair.key } ∷ [] else []) }) has
    ∙ ap (λ r. record { pairs = done ++ entry.pair ∷ []; repeated = r }) (append-nil repeated)

all_entries : (repeats : Repeats) (done : List Pair) (repeated : List Repeated) (entries : List Entry) → AreDistinct (done ++ pairs_in entries)
    → fold (with_entry repeats) (record { pairs = done; repeated = repeated }) entries ≡ record { pairs = done ++ pairs_in entries; repeated = repeated }
all_entries repeats done repeated [] distinct = ap (λ pairs. record { pairs = pairs; repeated = repeated }) (sym (append-nil done))
all_entries repeats done repeated (entry ∷ entries) distinct =
    ap (λ more. fold (with_entry repeats) more entries) (entry_more repeats done repeated entry (new_key done entry.pair (pairs_in entries) distinct))
    ∙ all_entries repeats (done ++ entry.pair ∷ []) repeated entries (rw joined distinct)
    ∙ ap (λ pairs. record { pairs = pairs; repeated = repeated }) joined
  where
    joined : (done ++ entry.pair ∷ []) ++ pairs_in entries ≡ done ++ entry.pair ∷ pairs_in entries
    joined = append_assoc done (entry.pair ∷ []) (pairs_in entries)

pub distinct_entries : (repeats : Repeats) (entries : List Entry) → AreDistinct (pairs_in entries)
    → fold (with_entry repeats) no_entries entries ≡ record { pairs = pairs_in entries; repeated = [] }
distinct_entries repeats entries distinct = all_entries repeats [] [] entries distinct

-- a text whose keys are distinct
pub distinct_read : (file : List ℕ) (folds : Bool) (repeats : Repeats) (text : List ℕ) (entries : List Entry) → lines_of file folds text ≡ Ok entries
    → AreDistinct (pairs_in entries)
    → text_read file folds repeats text ≡ Ok (record { table = record { folds = folds; pairs = pairs_in entries }; repeated = [] })
unfolding text_read
distinct_read file folds repeats text entries is distinct = by (lines_in file (grouped (physical_lines text))) is
  where
    read : (answer : Result (List Entry) Refused) → answer ≡ Ok entries → table_with folds (answer >>= (λ more. Ok (fold (with_entry repeats) no_entries more)))
        ≡ Ok (record { table = record { folds = folds; pairs = pairs_in entries }; repeated = [] })
    read answer e = rw (e, distinct_entries repeats entries distinct) refl

    by : (answer : Result (List Logical) Refused) → (answer >>= lines_read file folds) ≡ Ok entries
        → (answer >>= (λ lines. table_with folds (entries_in file folds repeats lines))) ≡ Ok (record { table = record { folds = folds; pairs = pairs_in entries }; repeated = [] })
    by (Ok lines) e = read (lines_read file folds lines) e
    by (Err refusal) e = cc

-- a text that is refused
pub refused_read : (file : List ℕ) (folds : Bool) (repeats : Repeats) (text : List ℕ) (refusal : Refused) → lines_of file folds text ≡ Err refusal
    → text_read file folds repeats text ≡ Err refusal
unfolding text_read
refused_read file folds repeats text refusal is = by (lines_in file (grouped (physical_lines text))) is
  where
    read : (answer : Result (List Entry) Refused) → answer ≡ Err refusal → table_with folds (answer >>= (λ more. Ok (fold (with_entry repeats) no_entries more))) ≡ Err refusal
    read answer e = rw e refl

    by : (answer : Result (List Logical) Refused) → (answer >>= lines_read file folds) ≡ Err refusal
        → (answer >>= (λ lines. table_with folds (entries_in file folds repeats lines))) ≡ Err refusal
    by (Ok lines) e = read (lines_read file folds lines) e
    by (Err other) e = let same : other ≡ refusal = cc in ap Err same
