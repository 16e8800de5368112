-- The lines of a text that are taken one after another. Words of the code's contracts, between a loop over lines and `lines_read`.
use Rattle.std.specs.Prelude.{◌≡◌, ℕ, Bool, List, [], ◌∷◌, Option, None, Some, Result, Ok, map, if◌then◌else◌}
use Rattle.pf_base.specs.Text.Logical.{Grouped, Physical, with_line}
use Rattle.pf_base.specs.Results.{◌>>=◌}
use Rattle.pf_base.specs.declared.text.logical.Logical.{Logical}
use Rattle.pf_base.specs.declared.refused.Refused.{Refused}
use Rattle.pf_table.specs.Text.{Entry, entry_of}

-- no line is ahead
abbrev pub no_lines : Grouped
no_lines = record { leading = []; logical = [] }

-- a line that counts and those after it, if there is one
abbrev pub with_next : Bool → Physical → Grouped → Grouped
with_next counts line g = if counts then with_line line g else no_lines

-- the first of the lines that continue what is before them is taken
pub record Continues (old : Grouped) (text : List ℕ) (new : Grouped) : Type 0 where
  pub first : map (λ line. line.text) old.leading ≡ text ∷ map (λ line. line.text) new.leading
  pub logical : new.logical ≡ old.logical

-- the entry of the line that was taken last, and the lines that are left
pub record Cursor : Type 0 where
  pub entry : Entry
  pub left : List Logical

-- that of no line
abbrev pub no_entry : Entry
no_entry = record { line = 0; pair = record { key = []; value = [] } }

-- the entry of the first of some lines, if there is one, or its refusal
abbrev pub first_entry : List ℕ → Bool → List Logical → Result (Option Entry) Refused
first_entry file folds [] = Ok None
first_entry file folds (logical ∷ lines) = do
  entry ← entry_of file folds logical
  Ok (Some entry)

-- an entry, where there is one
abbrev pub entry_if : Bool → Entry → Option Entry
entry_if more entry = if more then Some entry else None
