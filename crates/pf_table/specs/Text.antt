-- Text tables (DATABASE_README, texthash). The refusals are postgate's own.
use Rattle.std.specs.Prelude.{◌≡◌, ℕ, ◌++◌, Bool, List, [], ◌∷◌, Result, Ok, Err, map, if◌then◌else◌}
use Rattle.std.specs.List.{fold}
use Rattle.pf_base.specs.Text.Logical.{Grouped, Physical, grouped, physical_lines}
use Rattle.pf_base.specs.Refusal.{refused}
use Rattle.pf_base.specs.Results.{◌>>=◌}
use Rattle.pf_base.specs.declared.text.logical.Logical.{Logical}
use Rattle.pf_base.specs.declared.pair.Pair.{Pair}
use Rattle.pf_base.specs.declared.refused.Cause.TheVariants.{C1, C11}
use Rattle.pf_base.specs.declared.refused.Refused.{Refused}
use Rattle.pf_table.specs.Line.{pair_of, reason_text}
use Rattle.pf_table.specs.Pairs.{counted, has_key, with_pair}
use Rattle.pf_table.specs.Tables.{found_in}
use Rattle.pf_table.specs.declared.line.Reason.{Reason}
use Rattle.pf_table.specs.declared.pairs.Repeats.{Repeats}
use Rattle.pf_table.specs.declared.text.Entries.{Entries}
use Rattle.pf_table.specs.declared.text.Repeated.{Repeated}
use Rattle.pf_table.specs.declared.text.TextRead.{TextRead}

-- a line with its pair
pub record Entry : Type 0 where
  pub line : ℕ
  pub pair : Pair

-- a line is repeated whose key is there
abbrev pub repeated_in : List Pair → Entry → List Repeated
repeated_in pairs entry = if has_key pairs entry.pair.key then record { line = entry.line; key = entry.pair.key } ∷ [] else []

-- the pairs of lines and the repeated ones among them, with one line more
abbrev pub with_entry : Repeats → Entries → Entry → Entries
with_entry repeats entries entry = record {
  pairs = with_pair repeats entries.pairs entry.pair;
  repeated = entries.repeated ++ repeated_in entries.pairs entry;
}

abbrev pub no_entries : Entries
no_entries = record { pairs = []; repeated = [] }

-- the entry of a line with this pair, or its refusal
abbrev pub or_refused : List ℕ → ℕ → Result Pair Reason → Result Entry Refused
or_refused file line (Ok pair) = Ok (record { line = line; pair = pair })
or_refused file line (Err reason) = Err (refused file line C11 (reason_text reason))

abbrev pub entry_of : List ℕ → Bool → Logical → Result Entry Refused
entry_of file folds logical = or_refused file logical.line (pair_of folds logical.text)

-- the entries of logical lines in order, or the refusal of the first line that has none
abbrev pub lines_read : List ℕ → Bool → List Logical → Result (List Entry) Refused
lines_read file folds [] = Ok []
lines_read file folds (logical ∷ lines) = do
  entry ← entry_of file folds logical
  entries ← lines_read file folds lines
  Ok (entry ∷ entries)

-- what lines in order leave of their pairs
abbrev pub entries_in : List ℕ → Bool → Repeats → List Logical → Result Entries Refused
entries_in file folds repeats lines = do
  entries ← lines_read file folds lines
  Ok (fold (with_entry repeats) no_entries entries)

-- logical lines, unless lines before them continue nothing
abbrev pub unless_continued : List ℕ → List Physical → List Logical → Result (List Logical) Refused
unless_continued file [] lines = Ok lines
unless_continued file (line ∷ leading) lines = Err (refused file line.number C1 [])

-- the logical lines of a text whose lines are grouped so
abbrev pub lines_in : List ℕ → Grouped → Result (List Logical) Refused
lines_in file g = unless_continued file g.leading g.logical

-- a table of these entries
abbrev pub table_with : Bool → Result Entries Refused → Result TextRead Refused
table_with folds answer = do
  entries ← answer
  Ok (record { table = record { folds = folds; pairs = entries.pairs }; repeated = entries.repeated })

-- the table of a text, with the lines whose keys came before
unfoldable pub text_read : List ℕ → Bool → Repeats → List ℕ → Result TextRead Refused
text_read file folds repeats text = do
  lines ← lines_in file (grouped (physical_lines text))
  table_with folds (entries_in file folds repeats lines)

-- the lines of a text with their keys and values
abbrev pub lines_of : List ℕ → Bool → List ℕ → Result (List Entry) Refused
lines_of file folds text = lines_in file (grouped (physical_lines text)) >>= lines_read file folds

-- each key has the value of its first line, or of its last
abbrev pub Counts : List ℕ → Bool → Repeats → List ℕ → TextRead → Type 0
Counts file folds repeats text read = (lines : List Entry) (key : List ℕ) → lines_of file folds text ≡ Ok lines
    → found_in read.table.pairs key ≡ found_in (counted repeats (map (λ line. line.pair) lines)) key
