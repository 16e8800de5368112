-- Which bytes pass which tests.
use Rattle.std.proofs.Common.{◌≡◌, ℕ, ◌<◌, Bool, true, false, refl, ap, arith, tests}
use Rattle.std.specs.Prelude.{not, ◌||◌, nat_eq}
use Rattle.std.proofs.lemmas.Bool.{agree_below, agree_below_at, and_from, and_parts, ne_eqb, not_from_false, or_from}
use Rattle.pf_base.specs.Text.Space.{is_space}
use Rattle.pf_addr.specs.Grammar.{is_lone_byte, is_name_byte, is_plain_byte}
use Rattle.pf_addr.specs.Printed.{is_atom_byte}

-- a byte that passes is none that fails
pub other : (p : ℕ → Bool) (c b : ℕ) → p c ≡ false → p b ≡ true → nat_eq b c ≡ false
other p c b fails passes = ne_eqb b c (λ e. cc (fails, passes, ap p e))

abbrev implied : (ℕ → Bool) → (ℕ → Bool) → ℕ → Bool
implied p q b = not (p b) || q b

abbrev always : ℕ → Bool
always b = true

-- of the 128 bytes of ASCII those that pass one test pass another
implies : (p q : ℕ → Bool) → agree_below (implied p q) always 128 ≡ true → (b : ℕ) → b < 128 → p b ≡ true → q b ≡ true
implies p q table b below passes = rw passes at (agree_below_at (implied p q) always 128 b table below)

name_below : (b : ℕ) → is_name_byte b ≡ true → b < 128
unfolding is_name_byte
name_below b h = grind (arith, tests)

atom_below : (b : ℕ) → is_atom_byte b ≡ true → b < 128
unfolding is_atom_byte
atom_below b h = grind (arith, tests)

pub name_is_plain : (b : ℕ) → is_name_byte b ≡ true → is_plain_byte b ≡ true
unfolding is_name_byte is_plain_byte
name_is_plain b h = implies is_name_byte is_plain_byte refl b (name_below b h) h

pub atom_is_lone : (b : ℕ) → is_atom_byte b ≡ true → is_lone_byte b ≡ true
unfolding is_atom_byte is_lone_byte is_plain_byte
atom_is_lone b h = implies is_atom_byte is_lone_byte refl b (atom_below b h) h

pub name_is_no_at : (b : ℕ) → is_name_byte b ≡ true → not (nat_eq b 64) ≡ true
unfolding is_name_byte
name_is_no_at b h = not_from_false (nat_eq b 64) (other is_name_byte 64 b refl h)

pub name_is_no_bracket : (b : ℕ) → is_name_byte b ≡ true → nat_eq b 91 ≡ false
unfolding is_name_byte
name_is_no_bracket b h = other is_name_byte 91 b refl h

pub lone_is_plain : (b : ℕ) → is_lone_byte b ≡ true → is_plain_byte b ≡ true
unfolding is_lone_byte
lone_is_plain b h = (and_parts (is_plain_byte b) (not (nat_eq b 64)) h).0

pub lone_is_no_at : (b : ℕ) → is_lone_byte b ≡ true → not (nat_eq b 64) ≡ true
unfolding is_lone_byte
lone_is_no_at b h = (and_parts (is_plain_byte b) (not (nat_eq b 64)) h).1

pub plain_is_lone : (b : ℕ) → is_plain_byte b ≡ true → not (nat_eq b 64) ≡ true → is_lone_byte b ≡ true
unfolding is_lone_byte
plain_is_lone b h no_at = and_from (is_plain_byte b) (not (nat_eq b 64)) h no_at

-- a special byte, a space and the end of a text are no plain bytes, and the at sign is one
pub plain_is_no : (c b : ℕ) → is_plain_byte c ≡ false → is_plain_byte b ≡ true → nat_eq b c ≡ false
plain_is_no c b fails h = other is_plain_byte c b fails h

pub plain_is_no_space : (b : ℕ) → is_plain_byte b ≡ true → is_space b ≡ false
unfolding is_plain_byte
plain_is_no_space b h = or_from (nat_eq b 32) (nat_eq b 9) (other is_plain_byte 32 b refl h) (other is_plain_byte 9 b refl h)
