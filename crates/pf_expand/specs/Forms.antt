-- The forms that a dollar sign begins in a value (postconf(5), main.cf format: $name, ${name}, $(name), ${name?text}, ${name:text} and
-- ${name?{one}:{two}}; space round names and inner braces counts for nothing).
use Rattle.std.specs.Prelude.{ℕ, ◌+◌, ◌==◌, ◌||◌, ◌&&◌, Bool, false, nat_lt, List, [], ◌∷◌, Option, None, Some, length, take, drop, if◌then◌else◌}
use Rattle.std.specs.Char.{is_ascii_alphanumeric}
use Rattle.std.specs.List.{list_all, position, position_or_len, prefix_len}
use Rattle.std.specs.Option.{option_and_then, option_map}
use Rattle.pf_base.specs.Text.Ascii as ascii
use Rattle.pf_base.specs.Text.Braces.{partner}
use Rattle.pf_base.specs.Text.Space.{trimmed, without_leading_space}

-- letters, digits and the underscore
abbrev pub is_name_byte : ℕ → Bool
is_name_byte b = is_ascii_alphanumeric b || b == ascii.underscore

-- a part of a text: bytes that stand for themselves, the value of a name, or one of two texts by whether the value of a name is empty
pub data Part : Type 0 where
  literal : List ℕ → Part
  name : List ℕ → Part
  choice : List ℕ → List ℕ → List ℕ → Part

-- a part, and the text after it
abbrev pub before : List ℕ → Part → Part × List ℕ
before rest part = (part, rest)

-- the name that a text begins with, if it has a byte, and what is after it
abbrev pub name_before : List ℕ → Option (List ℕ × List ℕ)
name_before text =
    if prefix_len is_name_byte text == 0 then None
    else Some (take (prefix_len is_name_byte text) text, drop (prefix_len is_name_byte text) text)

-- what is in a brace that was opened before a text, and what is after it
abbrev pub in_brace : List ℕ → Option (List ℕ × List ℕ)
in_brace text = option_map (λ n. (take n text, drop (n + 1) text)) (partner 0 text)

-- a text that is a brace with its content, and space round it
abbrev pub if_alone : List ℕ × List ℕ → Option (List ℕ)
if_alone cut = if length (without_leading_space cut.1) == 0 then Some cut.0 else None

abbrev pub brace_content : List ℕ → Option (List ℕ)
brace_content [] = None
brace_content (b ∷ text) = if b == ascii.left_brace then option_and_then if_alone (in_brace text) else None

-- its first byte is an opening brace
abbrev pub begins_with_brace : List ℕ → Bool
begins_with_brace [] = false
begins_with_brace (b ∷ text) = b == ascii.left_brace

-- one text: a brace's content, or else all of it as it is
abbrev pub one_text : List ℕ → Option (List ℕ)
one_text text = if begins_with_brace (without_leading_space text) then brace_content (without_leading_space text) else Some text

-- after the first text of two: nothing, or a colon and the second one in a brace
abbrev pub second_text : List ℕ → Option (List ℕ)
second_text [] = Some []
second_text (b ∷ text) = if b == ascii.colon then brace_content (without_leading_space text) else None

-- the texts after a question mark
abbrev pub two_braces : List ℕ → List ℕ × List ℕ → Option Part
two_braces n cut = option_map (choice n cut.0) (second_text (without_leading_space cut.1))

abbrev pub behind_brace : List ℕ → List ℕ → Option Part
behind_brace n [] = None
behind_brace n (b ∷ text) = option_and_then (two_braces n) (in_brace text)

abbrev pub if_full : List ℕ → List ℕ → Option Part
if_full n text =
    if begins_with_brace (without_leading_space text) then behind_brace n (without_leading_space text) else Some (choice n text [])

-- the text after a colon
abbrev pub if_empty : List ℕ → List ℕ → Option Part
if_empty n text = option_map (choice n []) (one_text text)

-- what is after a name in a brace
abbrev pub behind_name : List ℕ → List ℕ → Option Part
behind_name n [] = Some (name n)
behind_name n (b ∷ text) =
    if b == ascii.question_mark then if_full n text else if b == ascii.colon then if_empty n text else None

-- the content of ${..}
abbrev pub with_name : List ℕ × List ℕ → Option Part
with_name cut = behind_name cut.0 (without_leading_space cut.1)

abbrev pub braced : List ℕ → Option Part
braced text = option_and_then with_name (name_before (without_leading_space text))

-- the content of $(..)
abbrev pub parenthesised : List ℕ → Option Part
parenthesised text = if nat_lt 0 (length (trimmed text)) && list_all is_name_byte (trimmed text) then Some (name (trimmed text)) else None

-- a form's content with what is after it
abbrev pub form_before : (List ℕ → Option Part) → List ℕ × List ℕ → Option (Part × List ℕ)
form_before content cut = option_map (before cut.1) (content cut.0)

-- where a parenthesis ends that was opened before a text
abbrev pub in_parenthesis : List ℕ → Option (List ℕ × List ℕ)
in_parenthesis text = option_map (λ n. (take n text, drop (n + 1) text)) (position (λ b. b == ascii.right_parenthesis) text)

-- ${..}, $(..) and $name, without the dollar sign and the opening brace or parenthesis, and the text after
abbrev pub with_brace : List ℕ → Option (Part × List ℕ)
with_brace text = option_and_then (form_before braced) (in_brace text)

abbrev pub with_parenthesis : List ℕ → Option (Part × List ℕ)
with_parenthesis text = option_and_then (form_before parenthesised) (in_parenthesis text)

abbrev pub with_name_alone : List ℕ → Option (Part × List ℕ)
with_name_alone text = option_map (λ cut. (name cut.0, cut.1)) (name_before text)

-- the part that a dollar sign before a text begins, and the text after it; None where it begins no form
unfoldable pub form_of : List ℕ → Option (Part × List ℕ)
form_of [] = None
form_of (b ∷ text) =
    if b == ascii.dollar_sign then Some (literal (ascii.dollar_sign ∷ []), text)
    else if b == ascii.left_brace then with_brace text
    else if b == ascii.left_parenthesis then with_parenthesis text
    else with_name_alone (b ∷ text)

-- how many bytes are before the first dollar sign
abbrev pub plain_length : List ℕ → ℕ
plain_length text = position_or_len (λ b. b == ascii.dollar_sign) text

-- the first part of a text, and the text after it; None where a dollar sign begins no form
unfoldable pub first_part : List ℕ → Option (Part × List ℕ)
first_part [] = None
first_part (b ∷ text) =
    if b == ascii.dollar_sign then form_of text
    else Some (literal (take (plain_length (b ∷ text)) (b ∷ text)), drop (plain_length (b ∷ text)) (b ∷ text))
