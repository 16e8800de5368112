-- What one line more does to what is read of a text.
use Rattle.std.proofs.Common.{◌≡◌, ◌<◌, ℕ, Bool, true, false, List, [], ◌∷◌, Option, None, Some, Result, Ok, Err, length, drop, refl, ap, arith}
use Rattle.std.specs.List.{fold}
use Rattle.pf_base.specs.Text.Logical.{grouped, physical_lines}
use Rattle.pf_base.specs.Results.{◌>>=◌}
use Rattle.pf_base.specs.declared.text.logical.Logical.{Logical}
use Rattle.pf_base.specs.declared.refused.ConfFault.{ConfFault}
use Rattle.pf_base.specs.declared.refused.Refused.{Refused}
use Rattle.pf_base.specs.Clauses.Faults.{as_fault}
use Rattle.pf_table.specs.Clauses.Lines.{entry_if, first_entry}
use Rattle.pf_table.specs.Clauses.Reading.{entries_read}
use Rattle.pf_table.specs.Text.{Entry, entries_in, entry_of, lines_in, lines_read, no_entries, table_with, text_read, with_entry}
use Rattle.pf_table.specs.declared.pairs.Repeats.{Repeats}
use Rattle.pf_table.specs.declared.text.Entries.{Entries}

-- the entries of some lines are those of the first and then the others
abbrev pub with_others : Option Entry → Result (List Entry) Refused → Result (List Entry) Refused
with_others None others = Ok []
with_others (Some entry) others = others >>= (λ more. Ok (entry ∷ more))

pub read_first : (file : List ℕ) (folds : Bool) (left : List Logical)
    → lines_read file folds left ≡ (first_entry file folds left >>= (λ first. with_others first (lines_read file folds (drop 1 left))))
read_first file folds [] = refl
read_first file folds (logical ∷ lines) = by (entry_of file folds logical)
  where
    by : (answer : Result Entry Refused)
        → (answer >>= (λ entry. lines_read file folds lines >>= (λ more. Ok (entry ∷ more))))
        ≡ (answer >>= (λ entry. Ok (Some entry)) >>= (λ first. with_others first (lines_read file folds lines)))
    by (Ok entry) = refl
    by (Err refusal) = refl

-- where there is a first one, fewer are left
pub fewer : (file : List ℕ) (folds : Bool) (left : List Logical) (entry : Entry) → first_entry file folds left ≡ Ok (entry_if true entry)
    → length (drop 1 left) < length left
fewer file folds [] entry is = cc
fewer file folds (logical ∷ lines) entry is = omega arith

-- the entries so far and those of more lines
abbrev pub taken_all : Repeats → Entries → Result (List Entry) Refused → Result Entries Refused
taken_all repeats entries answer = answer >>= (λ more. Ok (fold (with_entry repeats) entries more))

pub taken_more : (file : List ℕ) (folds : Bool) (repeats : Repeats) (entries : Entries) (left : List Logical) (entry : Entry)
    → first_entry file folds left ≡ Ok (entry_if true entry)
    → taken_all repeats entries (lines_read file folds left) ≡ taken_all repeats (with_entry repeats entries entry) (lines_read file folds (drop 1 left))
taken_more file folds repeats entries left entry first = rw (read_first file folds left, first) (by (lines_read file folds (drop 1 left)))
  where
    by : (others : Result (List Entry) Refused) → taken_all repeats entries (with_others (Some entry) others) ≡ taken_all repeats (with_entry repeats entries entry) others
    by (Ok more) = refl
    by (Err refusal) = refl

pub taken_end : (file : List ℕ) (folds : Bool) (repeats : Repeats) (entries : Entries) (left : List Logical) (entry : Entry)
    → first_entry file folds left ≡ Ok (entry_if false entry) → taken_all repeats entries (lines_read file folds left) ≡ Ok entries
taken_end file folds repeats entries left entry first = rw (read_first file folds left, first) refl

pub taken_fault : (file : List ℕ) (folds : Bool) (repeats : Repeats) (entries : Entries) (left : List Logical) (fault : ConfFault)
    → Err fault ≡ as_fault (first_entry file folds left) → Err fault ≡ as_fault (taken_all repeats entries (lines_read file folds left))
taken_fault file folds repeats entries left fault is = rw (read_first file folds left) (by (first_entry file folds left) is)
  where
    by : (answer : Result (Option Entry) Refused) → Err fault ≡ as_fault answer
        → Err fault ≡ as_fault (taken_all repeats entries (answer >>= (λ first. with_others first (lines_read file folds (drop 1 left)))))
    by (Ok first) is = cc
    by (Err refusal) is = cc

-- before the first line
pub fresh_reads : (file : List ℕ) (folds : Bool) (repeats : Repeats) (text : List ℕ) (left : List Logical) → lines_in file (grouped (physical_lines text)) ≡ Ok left
    → entries_read file folds repeats text ≡ taken_all repeats no_entries (lines_read file folds left)
fresh_reads file folds repeats text left is = ap (λ answer. answer >>= entries_in file folds repeats) is

-- the table of the entries that are read
pub table_read : (file : List ℕ) (folds : Bool) (repeats : Repeats) (text : List ℕ)
    → text_read file folds repeats text ≡ table_with folds (entries_read file folds repeats text)
unfolding text_read
table_read file folds repeats text = by (lines_in file (grouped (physical_lines text)))
  where
    by : (answer : Result (List Logical) Refused) → (answer >>= (λ lines. table_with folds (entries_in file folds repeats lines)))
        ≡ table_with folds (answer >>= entries_in file folds repeats)
    by (Ok lines) = refl
    by (Err refusal) = refl
