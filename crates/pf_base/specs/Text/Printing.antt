-- How texts are printed that a client or a log sees. That control bytes are question marks is postgate's own, by no standard.
use Rattle.std.specs.Prelude.{ℕ, ◌++◌, ◌==◌, ◌||◌, nat_lt, List, [], ◌∷◌, map, if◌then◌else◌}
use Rattle.pf_base.specs.Text.Ascii as ascii

-- control bytes print as question marks, so that a text keeps to its line
abbrev pub printable : ℕ → ℕ
printable b = if nat_lt b 32 || b == ascii.delete then ascii.question_mark else b

-- a text as it is printed
abbrev pub printed : List ℕ → List ℕ
printed text = map printable text

-- a line of the log: its text as it is printed, and a line feed
unfoldable pub printed_line : List ℕ → List ℕ
printed_line text = printed text ++ (ascii.line_feed ∷ [])
