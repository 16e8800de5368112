-- The number that std reads is the one that the digits write.
use Rattle.std.proofs.Common.{◌≡◌, ◌<◌, ◌^◌, ℕ, zero, suc, true, List, [], ◌∷◌, length, Ok, Err, None, IsAscii, IsUtf8, ap, arith, rules, leb-true}
use Rattle.std.proofs.lemmas.Bool.{and_parts}
use Rattle.std.proofs.lemmas.Str.{IsUtf8-from_ascii}
use Rattle.std.specs.Char.{is_ascii_digit}
use Rattle.std.specs.List.{list_all}
use Rattle.std.specs.Str.Parse.{ParsesUnsigned, digits_value}
use Rattle.std.proofs.lemmas.Str.Parse.{IsNumeralModel, numerals_by_value, parse_digits}
use Rattle.pf_pcre.specs.Pieces.{group_of, is_number, within}

own : IsNumeralModel (λ digits. list_all is_ascii_digit digits ≡ true) (digits_value 10)
own = numerals_by_value _ (search rules)

-- digits are a text
low : (b : ℕ) → is_ascii_digit b ≡ true → b < 128
low b is = omega (arith, leb-true b 57 (and_parts _ _ is).1)

ascii : (text : List ℕ) → list_all is_ascii_digit text ≡ true → IsAscii text
ascii [] is i = omega arith
ascii (b ∷ text) is zero = low b (and_parts _ _ is).0
ascii (b ∷ text) is (suc i) = ascii text (and_parts _ _ is).1 i

pub digits_are_text : (text : List ℕ) → is_number text ≡ true → IsUtf8 text
digits_are_text text is = IsUtf8-from_ascii text (ascii text (and_parts _ _ is).1)

-- a number that was read is the one of the text
pub group_read : (groups : ℕ) (text : List ℕ) (number : ℕ) → is_number text ≡ true → ParsesUnsigned {E = ℕ} 64 10 text (Ok number)
    → within groups number ≡ group_of groups text
group_read groups text number is read =
    let value = parse_digits own {E = ℕ} 64 text (Ok number) read (and_parts _ _ is).1 in
    rw is (ap (within groups) value.1)

too_great : (groups number : ℕ) → groups < 2 ^ 64 → (number < 2 ^ 64 → ⊥) → None ≡ within groups number
too_great groups number fits over = grind arith

not_empty : (text : List ℕ) → is_number text ≡ true → 0 < length text
not_empty [] is = cc
not_empty (b ∷ text) is = omega arith

-- digits of which none was read write too great a number
pub group_not_read : (E : Type 0) (groups : ℕ) (text : List ℕ) (error : E) → groups < 2 ^ 64 → is_number text ≡ true → ParsesUnsigned {E = E} 64 10 text (Err error)
    → None ≡ group_of groups text
group_not_read E groups text error fits is read =
    let none = parse_digits own {E = E} 64 text (Err error) read (and_parts _ _ is).1 in
    rw is (too_great groups (digits_value 10 text) fits (λ within. none (not_empty text is, within)))
