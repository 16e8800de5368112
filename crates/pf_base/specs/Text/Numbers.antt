-- Decimal numbers as they are written. That they have no sign and no leading zeros is postgate's own.
use Rattle.std.specs.Prelude.{ℕ, ◌==◌, ◌&&◌, ◌||◌, Bool, not, nat_le, nat_lt, List, Option, Some, None, length, slice_index, if◌then◌else◌}
use Rattle.std.specs.Char.{is_ascii_digit}
use Rattle.std.specs.List.{list_all}
use Rattle.std.specs.Str.Parse.{digits_value}
use Rattle.pf_base.specs.Text.Ascii as ascii

-- decimal digits, of which the first is 0 only where it is alone
abbrev pub is_decimal : List ℕ → Bool
is_decimal text = list_all is_ascii_digit text && (length text == 1 || nat_lt 1 (length text) && not (slice_index text 0 == ascii.digit_zero))

-- a number that is at most another
abbrev pub at_most : ℕ → ℕ → Option ℕ
at_most most number = if nat_le number most then Some number else None

-- the number that decimal digits write, where it is at most another
abbrev pub decimal_within : ℕ → List ℕ → Option ℕ
decimal_within most text = if is_decimal text then at_most most (digits_value 10 text) else None
