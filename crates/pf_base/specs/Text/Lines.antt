-- The lines of a stream of bytes (RFC 5321, 2.3.8, with bare line feeds taken as line ends).
use Rattle.std.specs.Prelude.{ℕ, ◌-◌, ◌==◌, Bool, List, length, take, slice_index, if◌then◌else◌}
use Rattle.std.specs.List.{after_last, slice_split}
use Rattle.pf_base.specs.Text.Ascii as ascii

-- a byte that ends a line
abbrev pub is_feed : ℕ → Bool
is_feed b = b == ascii.line_feed

-- a text parted at its line feeds
abbrev pub parts : List ℕ → List (List ℕ)
parts text = slice_split is_feed text

-- the lines of a text: its parts but the last, which no line feed ends
unfoldable pub lines : List ℕ → List (List ℕ)
lines text = take (length (parts text) - 1) (parts text)

-- what is after the last line feed of a text
unfoldable pub rest : List ℕ → List ℕ
rest text = after_last is_feed text

-- a line without the carriage return that is before its end
abbrev pub without_return : List ℕ → List ℕ
without_return line = if slice_index line (length line - 1) == ascii.carriage_return then take (length line - 1) line else line
