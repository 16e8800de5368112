-- Quoted strings byte by byte: words of contracts between the grammar and the code.
use Rattle.std.specs.Prelude.{ℕ, ◌+◌, ◌==◌, ◌&&◌, Bool, true, false, not, List, [], ◌∷◌, Option, Some, None, if◌then◌else◌}
use Rattle.std.specs.Option.{option_map}
use Rattle.pf_base.specs.Text.Ascii as ascii

-- the place of the quote that closes a quoted string, in what is after its first quote; taken says that a backslash comes before it
abbrev pub closing_quote : Bool → List ℕ → Option ℕ
closing_quote taken [] = None
closing_quote taken (b ∷ text) =
    if not taken && b == ascii.double_quote then Some 0 else option_map (λ n. n + 1) (closing_quote (not taken && b == ascii.backslash) text)

-- what is in a quoted string, without its backslashes
abbrev pub unquoted : Bool → List ℕ → List ℕ
unquoted taken [] = []
unquoted taken (b ∷ text) = if not taken && b == ascii.backslash then unquoted true text else b ∷ unquoted false text
