-- Space, and text without it at its ends (postconf(5): white space round a value does not belong to it). That space is a blank or a tab
-- and no other byte is postgate's own.
use Rattle.std.specs.Prelude.{ℕ, ◌-◌, ◌==◌, ◌||◌, Bool, List, length, take, drop}
use Rattle.std.specs.List.{prefix_len, suffix_len}
use Rattle.pf_base.specs.Text.Ascii as ascii

-- a blank or a tab
abbrev pub is_space : ℕ → Bool
is_space b = b == ascii.space || b == ascii.tab

-- a text from its first byte on that is no space
abbrev pub without_leading_space : List ℕ → List ℕ
without_leading_space text = drop (prefix_len is_space text) text

-- a text up to its last byte that is no space
abbrev pub without_trailing_space : List ℕ → List ℕ
without_trailing_space text = take (length text - suffix_len is_space text) text

-- a text without space at both ends
abbrev pub trimmed : List ℕ → List ℕ
trimmed text = without_trailing_space (without_leading_space text)
