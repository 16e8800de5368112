-- The pairs of the lines of a text as they come, each with its key, be it repeated or not. Words of the code's contracts.
use Rattle.std.specs.Prelude.{ℕ, Bool, List, Result, Ok, map}
use Rattle.pf_base.specs.Results.{◌>>=◌}
use Rattle.pf_base.specs.declared.pair.Pair.{Pair}
use Rattle.pf_base.specs.declared.refused.Refused.{Refused}
use Rattle.pf_table.specs.Text.{lines_of}

-- the pairs of the lines of a text in order, or its first refusal
abbrev pub line_pairs : List ℕ → Bool → List ℕ → Result (List Pair) Refused
line_pairs file folds text = do
  entries ← lines_of file folds text
  Ok (map (λ entry. entry.pair) entries)
