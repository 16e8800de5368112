-- Of repeated keys the first counts, or the last.
use Rattle.std.proofs.Common.{◌≡◌, ◌++◌, ℕ, Bool, true, false, List, [], ◌∷◌, Option, None, Some, Result, Ok, Err, refl, sym, ap, ◌∙◌, cond, if◌then◌else◌, append_assoc, append-nil, reverse}
use Rattle.std.proofs.lemmas.List.{reverse-append}
use Rattle.std.proofs.lemmas.List.Folds.{find-append}
use Rattle.std.proofs.lemmas.Slice.Eq.{bytes_eq-Decides}
use Rattle.std.specs.List.{find, fold}
use Rattle.std.specs.Option.{option_map, option_or}
use Rattle.std.specs.Prelude.{IfOk, map}
use Rattle.std.specs.Str.{bytes_eq}
use Rattle.pf_base.specs.Text.Logical.{grouped, physical_lines}
use Rattle.pf_base.specs.Results.{◌>>=◌}
use Rattle.pf_base.specs.declared.text.logical.Logical.{Logical}
use Rattle.pf_base.specs.declared.pair.Pair.{Pair}
use Rattle.pf_base.specs.Clauses.Unless.{Unless}
use Rattle.pf_base.specs.declared.refused.ConfFault.{ConfFault}
use Rattle.pf_base.specs.declared.refused.ConfFault.TheVariants.{NoMemory}
use Rattle.pf_base.specs.declared.refused.Refused.{Refused}
use Rattle.pf_asks.specs.declared.lookup.Found.{Found}
use Rattle.pf_asks.specs.declared.lookup.Found.TheVariants.{Value, Absent}
use Rattle.pf_table.proofs.TextLemmas.{there}
use Rattle.pf_base.specs.Clauses.Faults.{as_fault}
use Rattle.pf_table.specs.Inline as inline
use Rattle.pf_table.specs.Inline.{inline_of, item_pairs}
use Rattle.pf_table.specs.Pairs.{counted, counting, pairs_of, with_pair}
use Rattle.pf_table.specs.Tables.{Keyed, found_as, found_in}
use Rattle.pf_table.specs.Text.{Counts, Entry, entries_in, lines_in, lines_read, table_with, text_read, with_entry}
use Rattle.pf_table.specs.declared.pairs.Repeats.{Repeats}
use Rattle.pf_table.specs.declared.pairs.Repeats.TheVariants.{First, Last}
use Rattle.pf_table.specs.declared.text.Entries.{Entries}
use Rattle.pf_table.specs.declared.text.TextRead.{TextRead}

same : (a b : List ℕ) → bytes_eq a b ≡ true → a ≡ b
same a b h = (bytes_eq-Decides a b).0 h

alike : (a b : List ℕ) → a ≡ b → bytes_eq a b ≡ true
alike a b e = (bytes_eq-Decides a b).1 e

-- the value of the first pair of a key
abbrev value_in : List Pair → List ℕ → Option (List ℕ)
value_in pairs key = option_map (λ pair. pair.value) (find (λ pair. bytes_eq key pair.key) pairs)

-- what is found is that value
abbrev as_found : Option (List ℕ) → Found
as_found None = Absent
as_found (Some value) = Value value

found_value : (pairs : List Pair) (key : List ℕ) → found_in pairs key ≡ as_found (value_in pairs key)
found_value pairs key = by (find (λ pair. bytes_eq key pair.key) pairs)
  where
    by : (o : Option Pair) → found_as o ≡ as_found (option_map (λ pair. pair.value) o)
    by None = refl
    by (Some pair) = refl

value_append : (xs ys : List Pair) (key : List ℕ) → value_in (xs ++ ys) key ≡ option_or (value_in xs key) (value_in ys key)
value_append xs ys key =
    ap (option_map (λ pair. pair.value)) (find-append (λ pair. bytes_eq key pair.key) xs ys)
    ∙ by (find (λ pair. bytes_eq key pair.key) xs) (find (λ pair. bytes_eq key pair.key) ys)
  where
    by : (a b : Option Pair) → option_map (λ pair. pair.value) (option_or a b) ≡ option_or (option_map (λ pair. pair.value) a) (option_map (λ pair. pair.value) b)
    by None b = refl
    by (Some pair) b = refl

or_none : (a : Option (List ℕ)) → option_or a None ≡ a
or_none None = refl
or_none (Some value) = refl

-- a pair that takes the place of the one of its key
last_value : (pairs : List Pair) (other : Pair) (key : List ℕ) → value_in (with_pair Last pairs other) key ≡ value_in (other ∷ pairs) key
last_value [] other key = refl
last_value (pair ∷ pairs) other key = by (bytes_eq other.key pair.key) (bytes_eq key pair.key) (bytes_eq key other.key) refl refl refl (last_value pairs other key)
  where
    by : (s t u : Bool) → bytes_eq other.key pair.key ≡ s → bytes_eq key pair.key ≡ t → bytes_eq key other.key ≡ u
        → value_in (with_pair Last pairs other) key ≡ option_map (λ one. one.value) (cond u (Some other) (find (λ one. bytes_eq key one.key) pairs))
        → value_in (if s then counting Last pair other ∷ pairs else pair ∷ with_pair Last pairs other) key
        ≡ option_map (λ one. one.value) (cond u (Some other) (cond t (Some pair) (find (λ one. bytes_eq key one.key) pairs)))
    by true true true st tt ut behind = rw tt refl
    by true true false st tt ut behind = let e : bytes_eq key other.key ≡ true = alike key other.key (same key pair.key tt ∙ sym (same other.key pair.key st)) in cc
    by true false true st tt ut behind = let e : bytes_eq key pair.key ≡ true = alike key pair.key (same key other.key ut ∙ same other.key pair.key st) in cc
    by true false false st tt ut behind = rw tt refl
    by false true true st tt ut behind = let e : bytes_eq other.key pair.key ≡ true = alike other.key pair.key (sym (same key other.key ut) ∙ same key pair.key tt) in cc
    by false true false st tt ut behind = rw tt refl
    by false false true st tt ut behind = rw tt behind
    by false false false st tt ut behind = rw tt behind

-- a pair that is after the one of its key
first_value : (pairs : List Pair) (other : Pair) (key : List ℕ) → value_in (with_pair First pairs other) key ≡ value_in (pairs ++ other ∷ []) key
first_value [] other key = refl
first_value (pair ∷ pairs) other key = by (bytes_eq other.key pair.key) (bytes_eq key pair.key) refl refl (first_value pairs other key)
  where
    not_other : bytes_eq other.key pair.key ≡ true → bytes_eq key pair.key ≡ false → bytes_eq key other.key ≡ false
    not_other st tt = (elim (bytes_eq key other.key) as (λ u. bytes_eq key other.key ≡ u → u ≡ false) [
      | true ↦ λ ut. let e : bytes_eq key pair.key ≡ true = alike key pair.key (same key other.key ut ∙ same other.key pair.key st) in cc
      | false ↦ λ ut. refl
    ]) refl

    none_more : bytes_eq key other.key ≡ false → value_in pairs key ≡ value_in (pairs ++ other ∷ []) key
    none_more ut =
        sym (value_append pairs (other ∷ []) key
        ∙ ap (λ t. option_or (value_in pairs key) (option_map (λ one. one.value) (cond t (Some other) None))) ut
        ∙ or_none (value_in pairs key))

    by : (s t : Bool) → bytes_eq other.key pair.key ≡ s → bytes_eq key pair.key ≡ t
        → value_in (with_pair First pairs other) key ≡ value_in (pairs ++ other ∷ []) key
        → value_in (if s then counting First pair other ∷ pairs else pair ∷ with_pair First pairs other) key
        ≡ option_map (λ one. one.value) (cond t (Some pair) (find (λ one. bytes_eq key one.key) (pairs ++ other ∷ [])))
    by true true st tt behind = rw tt refl
    by true false st tt behind = rw tt (none_more (not_other st tt))
    by false true st tt behind = rw tt refl
    by false false st tt behind = rw tt behind

-- pairs in turn
firsts : (pairs more : List Pair) (key : List ℕ) → value_in (fold (with_pair First) pairs more) key ≡ value_in (pairs ++ more) key
firsts pairs [] key = ap (λ xs. value_in xs key) (sym (append-nil pairs))
firsts pairs (other ∷ more) key =
    firsts (with_pair First pairs other) more key
    ∙ value_append (with_pair First pairs other) more key
    ∙ ap (λ value. option_or value (value_in more key)) (first_value pairs other key)
    ∙ sym (value_append (pairs ++ other ∷ []) more key)
    ∙ ap (λ xs. value_in xs key) (append_assoc pairs (other ∷ []) more)

lasts : (pairs more : List Pair) (key : List ℕ) → value_in (fold (with_pair Last) pairs more) key ≡ value_in (reverse more ++ pairs) key
lasts pairs [] key = refl
lasts pairs (other ∷ more) key =
    lasts (with_pair Last pairs other) more key
    ∙ value_append (reverse more) (with_pair Last pairs other) key
    ∙ ap (λ value. option_or (value_in (reverse more) key) value) (last_value pairs other key)
    ∙ sym (value_append (reverse more) (other ∷ pairs) key)
    ∙ ap (λ xs. value_in xs key) (sym (append_assoc (reverse more) (other ∷ []) pairs))
    ∙ ap (λ xs. value_in (xs ++ pairs) key) (sym (reverse-append (other ∷ []) more))

counts : (repeats : Repeats) (pairs : List Pair) (key : List ℕ) → found_in (pairs_of repeats pairs) key ≡ found_in (counted repeats pairs) key
counts First pairs key = found_value (pairs_of First pairs) key ∙ ap as_found (firsts [] pairs key) ∙ sym (found_value pairs key)
counts Last pairs key =
    found_value (pairs_of Last pairs) key ∙ ap as_found (lasts [] pairs key ∙ ap (λ xs. value_in xs key) (append-nil (reverse pairs)))
    ∙ sym (found_value (reverse pairs) key)

-- the pairs of lines in turn
entries_pairs : (repeats : Repeats) (entries : Entries) (lines : List Entry)
    → (fold (with_entry repeats) entries lines).pairs ≡ fold (with_pair repeats) entries.pairs (map (λ line. line.pair) lines)
entries_pairs repeats entries [] = refl
entries_pairs repeats entries (line ∷ lines) = entries_pairs repeats (with_entry repeats entries line) lines

-- the pairs that were read
abbrev pairs_read : Result TextRead Refused → List Pair
pairs_read (Ok read) = read.table.pairs
pairs_read (Err refusal) = []

-- what is read of a text
pub text_counts : (file : List ℕ) (folds : Bool) (repeats : Repeats) (text : List ℕ) (read : TextRead) → text_read file folds repeats text ≡ Ok read
    → Counts file folds repeats text read
unfolding text_read
text_counts file folds repeats text read is lines key so = by (lines_in file (grouped (physical_lines text))) is so
  where
    found : read.table.pairs ≡ pairs_of repeats (map (λ line. line.pair) lines) → found_in read.table.pairs key ≡ found_in (counted repeats (map (λ line. line.pair) lines)) key
    found e = ap (λ pairs. found_in pairs key) e ∙ counts repeats (map (λ line. line.pair) lines) key

    pairs_are : (answer : Result (List Entry) Refused) → table_with folds (answer >>= (λ entries. Ok (fold (with_entry repeats) (record { pairs = []; repeated = [] }) entries))) ≡ Ok read
        → answer ≡ Ok lines → read.table.pairs ≡ pairs_of repeats (map (λ line. line.pair) lines)
    pairs_are (Ok entries) made there =
        let e : entries ≡ lines = cc in
        sym (ap pairs_read made) ∙ entries_pairs repeats (record { pairs = []; repeated = [] }) entries ∙ ap (λ more. pairs_of repeats (map (λ line. line.pair) more)) e
    pairs_are (Err refusal) made there = cc

    by : (answer : Result (List Logical) Refused) → (answer >>= (λ logical. table_with folds (entries_in file folds repeats logical))) ≡ Ok read
        → (answer >>= lines_read file folds) ≡ Ok lines → found_in read.table.pairs key ≡ found_in (counted repeats (map (λ line. line.pair) lines)) key
    by (Ok logical) made there = found (pairs_are (lines_read file folds logical) made there)
    by (Err refusal) made there = cc

pub read_counts : (file : List ℕ) (folds : Bool) (repeats : Repeats) (text : List ℕ) (result : Result TextRead ConfFault)
    → Unless result NoMemory (λ r. r ≡ as_fault (text_read file folds repeats text)) → IfOk result (Counts file folds repeats text)
read_counts file folds repeats text (Ok read) is = text_counts file folds repeats text read (there _ _ is)
read_counts file folds repeats text (Err fault) is = tt

-- what is read of the text of an inline table
inline_counts : (file : List ℕ) (line : ℕ) (folds : Bool) (text : List ℕ) (table : Keyed) → inline_of file line folds text ≡ Ok table → inline.Counts folds text table
inline_counts file line folds text table is items pairs key words made =
    let there : Ok (record { folds = folds; pairs = pairs_of First pairs }) ≡ Ok table = rw (words, made) at is in
    let e : table.pairs ≡ pairs_of First pairs = cc in
    ap (λ xs. found_in xs key) e ∙ counts First pairs key

pub table_counts : (file : List ℕ) (line : ℕ) (folds : Bool) (text : List ℕ) (result : Result Keyed ConfFault)
    → Unless result NoMemory (λ r. r ≡ as_fault (inline_of file line folds text)) → IfOk result (inline.Counts folds text)
table_counts file line folds text (Ok table) is = inline_counts file line folds text table (there _ _ is)
table_counts file line folds text (Err fault) is = tt
