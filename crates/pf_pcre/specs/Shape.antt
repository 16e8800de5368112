-- How a pattern is in a line: between delimiters (pcre_table(5)). Which bytes are one, and where a pattern ends, is postgate's own.
use Rattle.std.specs.Prelude.{ℕ, ◌+◌, ◌==◌, ◌&&◌, ◌||◌, Bool, true, false, not, List, [], ◌∷◌, Option, Some, None, option_map, drop, slice_index, take, if◌then◌else◌}
use Rattle.std.specs.Char.{is_ascii_alphanumeric}
use Rattle.pf_base.specs.Text.Ascii as ascii
use Rattle.pf_base.specs.Text.Space.{is_space}

-- any byte but letters, digits, space, the backslash and the exclamation mark
abbrev pub is_delimiter : ℕ → Bool
is_delimiter b = not (((is_ascii_alphanumeric b || is_space b) || b == ascii.backslash) || b == ascii.exclamation_mark)

-- the place of the first such byte that no backslash takes; taken says that one is before the text
abbrev pub closing : ℕ → Bool → List ℕ → Option ℕ
closing delimiter taken [] = None
closing delimiter taken (b ∷ text) =
    if not taken && b == delimiter then Some 0 else option_map (λ n. n + 1) (closing delimiter (not taken && b == ascii.backslash) text)

-- a pattern between delimiters: whether an exclamation mark is before it, its text, and what is after it
pub record Delimited : Type 0 where
  pub negated : Bool
  pub pattern : List ℕ
  pub behind : List ℕ

-- the pattern at the start of a text that begins with its delimiter
abbrev pub between : Bool → List ℕ → Option Delimited
between negated [] = None
between negated (first ∷ text) =
    if is_delimiter first then option_map (λ place. record { negated = negated; pattern = take place text; behind = drop (place + 1) text }) (closing first false text)
    else None

-- the pattern at the start of a text
abbrev pub shape_of : List ℕ → Option Delimited
shape_of text = if slice_index text 0 == ascii.exclamation_mark then between true (drop 1 text) else between false text
