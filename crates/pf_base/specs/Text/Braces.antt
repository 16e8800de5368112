-- Braces and their partners in a value (postconf(5), main.cf format; DATABASE_README, inline and unionmap).
use Rattle.std.specs.Prelude.{ℕ, ◌+◌, ◌-◌, ◌==◌, ◌||◌, ◌&&◌, Bool, List, [], ◌∷◌, Option, None, Some, if◌then◌else◌}
use Rattle.std.specs.Option.{option_map}
use Rattle.pf_base.specs.Text.Ascii as ascii

-- how many braces are open after a byte
abbrev pub open_behind : ℕ → ℕ → ℕ
open_behind depth b = if b == ascii.left_brace then depth + 1 else if b == ascii.right_brace then depth - 1 else depth

-- the place of the partner of a brace that was opened before a text, so many others being open in it
abbrev pub partner : ℕ → List ℕ → Option ℕ
partner depth [] = None
partner depth (b ∷ text) = if b == ascii.right_brace && depth == 0 then Some 0 else option_map (λ n. n + 1) (partner (open_behind depth b) text)

-- how many closing braces of a text have no partner in it
abbrev pub closing : List ℕ → ℕ
closing [] = 0
closing (b ∷ text) = if b == ascii.left_brace then closing text - 1 else if b == ascii.right_brace then closing text + 1 else closing text

-- a brace without a partner: an opening one with no closing one left for it after, or a closing one where none is open before it
abbrev pub is_lone : ℕ → ℕ → List ℕ → Bool
is_lone depth b behind = (b == ascii.left_brace && closing behind == 0) || (b == ascii.right_brace && depth == 0)

-- the place of the first brace without a partner, where so many braces are open before the text that have their partners in it
abbrev pub lone_brace : ℕ → List ℕ → Option ℕ
lone_brace depth [] = None
lone_brace depth (b ∷ text) = if is_lone depth b text then Some 0 else option_map (λ n. n + 1) (lone_brace (open_behind depth b) text)
