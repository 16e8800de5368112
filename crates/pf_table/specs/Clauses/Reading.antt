-- Lines and texts, as the functions that read them say it. Words of the code's contracts.
use Rattle.std.specs.Prelude.{ℕ, ◌++◌, Bool, false, List, Result}
use Rattle.pf_base.specs.Text.Logical.{grouped, physical_lines}
use Rattle.pf_base.specs.Results.{◌>>=◌}
use Rattle.pf_base.specs.declared.pair.Pair.{Pair}
use Rattle.pf_base.specs.declared.refused.Refused.{Refused}
use Rattle.pf_table.specs.Line.{unquoted}
use Rattle.pf_table.specs.Tables.{kept_key}
use Rattle.pf_table.specs.Text.{entries_in, lines_in}
use Rattle.pf_table.specs.declared.pairs.Repeats.{Repeats}
use Rattle.pf_table.specs.declared.text.Entries.{Entries}

-- the pair of a line with these parts: what is in its quotes, what its key goes on with, and its value
abbrev pub pair_with : Bool → List ℕ → List ℕ → List ℕ → Pair
pair_with folds quoted plain value = record { key = kept_key folds (unquoted false quoted ++ plain); value = value }

-- the entries of a text, or its first refusal
abbrev pub entries_read : List ℕ → Bool → Repeats → List ℕ → Result Entries Refused
entries_read file folds repeats text = do
  lines ← lines_in file (grouped (physical_lines text))
  entries_in file folds repeats lines
