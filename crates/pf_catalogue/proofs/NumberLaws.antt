-- A number with one digit more.
use Rattle.std.proofs.Common.{◌≡◌, ℕ, ◌+◌, ◌-◌, ◌*◌, ◌<◌, ◌&&◌, Bool, true, false, nat_le, List, length, get_or, take, None, Some, refl, sym, ap, ◌∙◌, arith, if◌then◌else◌}
use Rattle.std.proofs.lemmas.Bool.{lt-leb}
use Rattle.std.proofs.lemmas.Int.Digits.{digits_value_more}
use Rattle.std.proofs.lemmas.List.Folds.{list_all_more}
use Rattle.std.proofs.lemmas.Str.{digit_value_digit}
use Rattle.std.proofs.lemmas.Str.Parse.{digits_value-take-le}
use Rattle.std.specs.Char.{IsAsciiDigit, is_ascii_digit}
use Rattle.std.specs.List.{list_all}
use Rattle.std.specs.Str.Parse.{digits_value}
use Rattle.pf_catalogue.specs.Numbers.{is_number, number_within}

pub number_more : (text : List ℕ) (i number : ℕ) → i < length text → IsAsciiDigit (get_or text i 0) → number ≡ digits_value 10 (take i text)
    → number * 10 + (get_or text i 0 - 48) ≡ digits_value 10 (take (i + 1) text)
number_more text i number within digit is =
    omega (arith, digits_value_more 10 text i within, digit_value_digit (get_or text i 0) digit)

pub digits_more : (text : List ℕ) (i : ℕ) → i < length text → list_all is_ascii_digit (take i text) ≡ true → is_ascii_digit (get_or text i 0) ≡ true
    → list_all is_ascii_digit (take (i + 1) text) ≡ true
digits_more text i within digits digit =
    list_all_more is_ascii_digit text i 0 within ∙ ap (λ t. t && is_ascii_digit (get_or text i 0)) digits ∙ digit

-- a number is not less than its first digits
pub too_large : (least most : ℕ) (text : List ℕ) (i number : ℕ) → number ≡ digits_value 10 (take i text) → most < number → None ≡ number_within least most text
too_large least most text i number is above =
    sym (ap (λ t. if is_number text && nat_le least (digits_value 10 text) && t then Some (digits_value 10 text) else None) (lt-leb (digits_value 10 text) most
    (omega (arith, digits_value-take-le 10 text i (omega arith))))
    ∙ none (is_number text && nat_le least (digits_value 10 text)))
  where
    none : (t : Bool) → (if t && false then Some (digits_value 10 text) else None) ≡ None
    none true = refl
    none false = refl
