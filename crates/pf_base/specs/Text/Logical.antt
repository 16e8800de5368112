-- Logical lines (postconf(5), main.cf format; DATABASE_README): a line that starts with space continues the one before it; empty lines,
-- lines of space alone and lines whose first byte past space is # count for nothing. That they may be inside a logical line is postgate's own.
use Rattle.std.specs.Prelude.{ℕ, ◌+◌, ◌++◌, ◌==◌, Bool, true, false, List, [], ◌∷◌, Result, Ok, Err, if◌then◌else◌}
use Rattle.std.specs.List.{fold}
use Rattle.pf_base.specs.Text.Ascii as ascii
use Rattle.pf_base.specs.Text.Lines.{parts, without_return}
use Rattle.pf_base.specs.Text.Space.{is_space, without_leading_space}
use Rattle.pf_base.specs.declared.text.logical.Logical.{Logical}
use Rattle.pf_base.specs.declared.text.logical.TextFault.{TextFault}
use Rattle.pf_base.specs.declared.text.logical.TextFault.TheVariants.{Continuation}

-- a line as it is in the file, with its number
pub record Physical : Type 0 where
  pub number : ℕ
  pub text : List ℕ

-- lines with their numbers, without the carriage return before a line end
abbrev pub numbered : ℕ → List (List ℕ) → List Physical
numbered n [] = []
numbered n (line ∷ lines) = record { number = n; text = without_return line } ∷ numbered (n + 1) lines

-- the physical lines of a text: one ends at a line feed or at the end of the text
abbrev pub physical_lines : List ℕ → List Physical
physical_lines text = numbered 1 (parts text)

-- nothing is left of the line, or a comment
abbrev pub is_empty_or_comment : List ℕ → Bool
is_empty_or_comment [] = true
is_empty_or_comment (b ∷ bytes) = b == ascii.number_sign

-- empty, all space, or a comment
abbrev pub is_ignored : List ℕ → Bool
is_ignored text = is_empty_or_comment (without_leading_space text)

-- its first byte is space
abbrev pub starts_with_space : List ℕ → Bool
starts_with_space [] = false
starts_with_space (b ∷ bytes) = is_space b

-- a logical line of one physical line
abbrev pub alone : Physical → Logical
alone line = record { line = line.number; last = line.number; text = line.text }

-- a logical line with one more physical line
abbrev pub continued : Logical → Physical → Logical
continued logical line = record { line = logical.line; last = line.number; text = logical.text ++ line.text }

-- the lines that continue nothing, and the logical lines after them
pub record Grouped : Type 0 where
  pub leading : List Physical
  pub logical : List Logical

-- a line that counts, before those after it
abbrev pub with_line : Physical → Grouped → Grouped
with_line line g =
    if starts_with_space line.text then record { leading = line ∷ g.leading; logical = g.logical }
    else record { leading = []; logical = fold continued (alone line) g.leading ∷ g.logical }

-- a line that counts for nothing adds nothing
abbrev pub unless_ignored : Physical → Grouped → Grouped
unless_ignored line g = if is_ignored line.text then g else with_line line g

-- each line that doesn't start with space begins a logical line, and those after it that do continue it
abbrev pub grouped : List Physical → Grouped
grouped [] = record { leading = []; logical = [] }
grouped (line ∷ lines) = unless_ignored line (grouped lines)

-- the first of the lines that continue nothing is refused
abbrev pub unless_leading : List Physical → List Logical → Result (List Logical) TextFault
unless_leading [] logical = Ok logical
unless_leading (line ∷ lines) logical = Err (Continuation line.number)

-- the logical lines of a text whose lines are grouped so
abbrev pub outcome : Grouped → Result (List Logical) TextFault
outcome g = unless_leading g.leading g.logical

-- the logical lines of a text, or the line that continues nothing
abbrev pub logical_lines_of : List ℕ → Result (List Logical) TextFault
logical_lines_of text = outcome (grouped (physical_lines text))
