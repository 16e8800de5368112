-- Numbers (postconf(5)): digits without a sign. That the first ones may be 0 is postgate's own.
use Rattle.std.specs.Prelude.{ℕ, ◌&&◌, Bool, nat_le, nat_lt, List, Option, None, Some, length, if◌then◌else◌}
use Rattle.std.specs.Char.{is_ascii_digit}
use Rattle.std.specs.List.{list_all}
use Rattle.std.specs.Str.Parse.{digits_value}

abbrev pub is_number : List ℕ → Bool
is_number text = nat_lt 0 (length text) && list_all is_ascii_digit text

-- the number that a text writes, if it is from the one to the other
abbrev pub number_within : ℕ → ℕ → List ℕ → Option ℕ
number_within least most text =
    if is_number text && nat_le least (digits_value 10 text) && nat_le (digits_value 10 text) most then Some (digits_value 10 text) else None
