-- The edit of a main.cf's text (postconf(1), -e): the last setting of each name that is set gives way to one line, and nothing else changes.
use Rattle.std.specs.Prelude.{◌≡◌, ℕ, ◌+◌, ◌-◌, ◌==◌, ◌++◌, ◌&&◌, Bool, true, false, not, List, [], ◌∷◌, Option, None, Some, Result, Ok, length, map, filter, slice_index, codes, if◌then◌else◌}
use Rattle.std.specs.List.{find, flat_map, fold, list_all, list_any}
use Rattle.std.specs.Option.{option_map, option_or}
use Rattle.std.specs.Str.{bytes_eq}
use Rattle.pf_base.specs.Text.Ascii as ascii
use Rattle.pf_base.specs.Text.Lines.{lines, rest, without_return}
use Rattle.pf_base.specs.Text.Logical.{is_ignored, starts_with_space}
use Rattle.pf_base.specs.Results.{◌>>=◌}
use Rattle.pf_base.specs.Text.Space.{trimmed}
use Rattle.pf_base.specs.declared.refused.Refused.{Refused}
use Rattle.pf_maincf.specs.Settings.{Conf, conf_of, is_name, last_setting}
use Rattle.pf_maincf.specs.declared.setting.Setting.{Setting}

-- its first byte is a number sign
abbrev pub begins_comment : List ℕ → Bool
begins_comment name = slice_index name 0 == ascii.number_sign

-- its last byte is a carriage return
abbrev pub ends_in_return : List ℕ → Bool
ends_in_return value = slice_index value (length value - 1) == ascii.carriage_return

-- what one line can say: a name that holds no equals sign and begins no comment, and a value without space at its ends, in one line
-- that ends in no carriage return
abbrev pub is_writable : Setting → Bool
is_writable assignment =
    is_name assignment.name && not (list_any (λ b. b == ascii.equals_sign) assignment.name) && not (begins_comment assignment.name)
    && bytes_eq (trimmed assignment.value) assignment.value && not (list_any (λ b. b == ascii.line_feed) assignment.value)
    && not (ends_in_return assignment.value)

-- no name comes twice
abbrev pub differ : List (List ℕ) → Bool
differ [] = true
differ (name ∷ names) = not (list_any (bytes_eq name) names) && differ names

-- no further setting has the name of the first one
abbrev pub first_differs : List Setting → Bool
first_differs [] = true
first_differs (assignment ∷ assignments) = not (list_any (λ other. bytes_eq assignment.name other.name) assignments)

-- settings that an edit can write, each name once
abbrev pub are_assignments : List Setting → Bool
are_assignments assignments = list_all is_writable assignments && differ (map (λ assignment. assignment.name) assignments)

pub record AreAssignments (assignments : List Setting) : Type 0 where
  pub each : list_all is_writable assignments ≡ true
  pub once : differ (map (λ assignment. assignment.name) assignments) ≡ true

-- the line that sets a name, with its line feed; the blank after the equals sign is before an empty value too
abbrev pub assignment_line : Setting → List ℕ
assignment_line assignment = assignment.name ++ codes " = " ++ assignment.value ++ ascii.line_feed ∷ []

-- the number of the line at which a setting begins, 0 where there is none
abbrev pub line_of : Option Setting → ℕ
line_of None = 0
line_of (Some setting) = setting.line

-- an assignment with the line at which the last setting of its name begins
abbrev pub placed : List Setting → Setting → Setting
placed settings assignment = record { line = line_of (last_setting settings assignment.name); name = assignment.name; value = assignment.value }

-- a physical line and its line feed, if it has one
pub record Line : Type 0 where
  pub text : List ℕ
  pub feed : List ℕ

-- the physical lines of a text: one ends at a line feed or at the end of the text
abbrev pub lines_in : List ℕ → List Line
lines_in text = map (λ line. record { text = line; feed = ascii.line_feed ∷ [] }) (lines text) ++ record { text = rest text; feed = [] } ∷ []

-- a line as it is in the text
abbrev pub standing : Line → List ℕ
standing line = line.text ++ line.feed

-- a line counts for nothing
abbrev pub counts_for_nothing : List ℕ → Bool
counts_for_nothing line = is_ignored (without_return line)

-- a line begins a logical line
abbrev pub begins_logical : List ℕ → Bool
begins_logical line = not (is_ignored (without_return line)) && not (starts_with_space (without_return line))

-- a logical line as it is in a text: the number of its first physical line, and its physical lines with the ignored ones up to the next
-- logical line
pub record Block : Type 0 where
  pub line : ℕ
  pub lines : List Line

-- the physical lines before the first logical line, and the logical lines
pub record Blocks : Type 0 where
  pub prefix : List Line
  pub blocks : List Block

-- one line more before others
abbrev pub before_blocks : ℕ → Line → Blocks → Blocks
before_blocks number line b =
    if begins_logical line.text then record { prefix = []; blocks = record { line = number; lines = line ∷ b.prefix } ∷ b.blocks }
    else record { prefix = line ∷ b.prefix; blocks = b.blocks }

-- the blocks of lines whose first one has this number
abbrev pub blocks_from : ℕ → List Line → Blocks
blocks_from number [] = record { prefix = []; blocks = [] }
blocks_from number (line ∷ lines) = before_blocks number line (blocks_from (number + 1) lines)

-- the assignment of a line
abbrev pub assignment_at : List Setting → ℕ → Option Setting
assignment_at assignments line = find (λ assignment. assignment.line == line) assignments

-- a logical line stays as it is, or gives way to the line of the assignment there; ignored lines come after that
abbrev pub edited_by : Block → Option Setting → List ℕ
edited_by block None = flat_map standing block.lines
edited_by block (Some assignment) = assignment_line assignment ++ flat_map standing (filter (λ line. counts_for_nothing line.text) block.lines)

abbrev pub edited_block : List Setting → Block → List ℕ
edited_block assignments block = edited_by block (assignment_at assignments block.line)

-- all lines, edited
abbrev pub edited_blocks : List Setting → Blocks → List ℕ
edited_blocks assignments b = flat_map standing b.prefix ++ flat_map (edited_block assignments) b.blocks

abbrev pub edited_lines : List Setting → List ℕ → List ℕ
edited_lines assignments text = edited_blocks assignments (blocks_from 1 (lines_in text))

-- a text ends in a line feed: nothing is after its last one
abbrev pub is_ended : List ℕ → Bool
is_ended [] = false
is_ended (b ∷ bytes) = length (rest (b ∷ bytes)) == 0

-- a line feed, where a text does not end in one, the empty text too
abbrev pub feed_behind : List ℕ → List ℕ
feed_behind text = if is_ended text then [] else ascii.line_feed ∷ []

-- a text with the line of an assignment as its last line
abbrev pub with_line : List ℕ → Setting → List ℕ
with_line text assignment = text ++ feed_behind text ++ assignment_line assignment

-- a text with assignments at their lines, and after it those that have none
abbrev pub edited_text : List Setting → List ℕ → List ℕ
edited_text assignments text = fold with_line (edited_lines assignments text) (filter (λ assignment. assignment.line == 0) assignments)

-- the assignments put into the text of a main.cf that was read
abbrev pub edited_in : List Setting → List ℕ → Result Conf Refused → Result (List ℕ) Refused
edited_in assignments text answer = do
  conf ← answer
  Ok (edited_text (map (placed conf.settings) assignments) text)

-- the text of a main.cf of this name after an edit
unfoldable pub edited : List ℕ → List ℕ → List Setting → Result (List ℕ) Refused
edited file text assignments = edited_in assignments text (conf_of file text)

-- the value of a name, and the one that it is set to
abbrev pub value_of : List Setting → List ℕ → Option (List ℕ)
value_of settings name = option_map (λ s. s.value) (last_setting settings name)

abbrev pub set_value : List Setting → List ℕ → Option (List ℕ)
set_value assignments name = option_map (λ s. s.value) (find (λ s. bytes_eq s.name name) assignments)

-- the text after an edit is read, and each name has the value that it is set to, or else the one that it had
pub record IsEditOf (file text after : List ℕ) (assignments : List Setting) : Type 0 where
  pub old : Conf
  pub new : Conf
  pub before : conf_of file text ≡ Ok old
  pub behind : conf_of file after ≡ Ok new
  pub values : (name : List ℕ) → value_of new.settings name ≡ option_or (set_value assignments name) (value_of old.settings name)
