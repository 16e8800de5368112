-- Results, in which groups of a pattern are (pcre_table(5)). Which results are refused is postgate's own.
use Rattle.std.specs.Prelude.{ℕ, zero, suc, ◌+◌, ◌==◌, ◌&&◌, Bool, nat_le, nat_lt, List, [], ◌∷◌, Option, Some, None, drop, length, slice_index, take, if◌then◌else◌}
use Rattle.std.specs.Char.{is_ascii_digit}
use Rattle.std.specs.List.{list_all, position_from, prefix_len}
use Rattle.std.specs.Str.Parse.{digits_value}
use Rattle.pf_base.specs.Text.Ascii as ascii
use Rattle.pf_base.specs.Options.{◌>>=◌}
use Rattle.pf_pcre.specs.declared.pieces.Piece.{Piece}
use Rattle.pf_pcre.specs.declared.pieces.Piece.TheVariants.{Byte, Group}

-- digits, at least one
abbrev pub is_number : List ℕ → Bool
is_number text = nat_lt 0 (length text) && list_all is_ascii_digit text

-- groups are counted from 1
abbrev pub within : ℕ → ℕ → Option ℕ
within groups number = if nat_lt 0 number && nat_le number groups then Some number else None

-- the group that a number names, of so many
abbrev pub group_of : ℕ → List ℕ → Option ℕ
group_of groups text = if is_number text then within groups (digits_value 10 text) else None

-- a piece of a result, and the text after it
abbrev pub First : Type 0
First = Piece × List ℕ

-- a group with its digits at the start of a text
abbrev pub open_group : ℕ → List ℕ → Option First
open_group groups text = do
  group ← group_of groups (take (prefix_len is_ascii_digit text) text)
  Some (Group group, drop (prefix_len is_ascii_digit text) text)

abbrev pub place_of : ℕ → List ℕ → Option ℕ
place_of byte text = position_from (λ b. b == byte) 0 text

-- a group whose digits are before the byte that closes it
abbrev pub closed_group : ℕ → ℕ → List ℕ → Option First
closed_group groups close text = do
  place ← place_of close text
  group ← group_of groups (take place text)
  Some (Group group, drop (place + 1) text)

-- what a dollar sign begins: a dollar sign or a group
abbrev pub behind_dollar : ℕ → List ℕ → Option First
behind_dollar groups text =
    if slice_index text 0 == ascii.dollar_sign then Some (Byte ascii.dollar_sign, drop 1 text)
    else if slice_index text 0 == ascii.left_brace then closed_group groups ascii.right_brace (drop 1 text)
    else if slice_index text 0 == ascii.left_parenthesis then closed_group groups ascii.right_parenthesis (drop 1 text)
    else open_group groups text

abbrev pub first_piece : ℕ → List ℕ → Option First
first_piece groups [] = None
first_piece groups (b ∷ text) = if b == ascii.dollar_sign then behind_dollar groups text else Some (Byte b, text)

-- the pieces of a text in order, at most so many
abbrev pub pieces_within : ℕ → ℕ → List ℕ → Option (List Piece)
pieces_within groups most [] = Some []
pieces_within groups zero (b ∷ text) = None
pieces_within groups (suc most) (b ∷ text) = do
  first ← first_piece groups (b ∷ text)
  pieces ← pieces_within groups most first.1
  Some (first.0 ∷ pieces)

-- the pieces of a result, where the pattern has so many groups. Each piece has at least a byte.
unfoldable pub pieces_of : ℕ → List ℕ → Option (List Piece)
pieces_of groups text = pieces_within groups (length text) text
