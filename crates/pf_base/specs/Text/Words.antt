-- The words of a value (postconf(5), parameters that are lists; DATABASE_README, inline, for braces).
use Rattle.std.specs.Prelude.{ℕ, ◌==◌, ◌||◌, ◌&&◌, Bool, nat_lt, List, [], ◌∷◌, Option, None, Some, Result, Ok, Err, length, if◌then◌else◌}
use Rattle.std.specs.List.{filter, onto_first}
use Rattle.pf_base.specs.Text.Ascii as ascii
use Rattle.pf_base.specs.Text.Braces.{lone_brace, open_behind}
use Rattle.pf_base.specs.Text.Space.{is_space}
use Rattle.pf_base.specs.declared.text.words.WordsFault.{WordsFault}
use Rattle.pf_base.specs.declared.text.words.WordsFault.TheVariants.{Unbalanced}

-- space, line feeds and commas part words
abbrev pub is_separator : ℕ → Bool
is_separator b = is_space b || b == ascii.line_feed || b == ascii.comma

-- a text parted at its separators that are in no brace, where so many braces are open before it
abbrev pub parted : ℕ → List ℕ → List (List ℕ)
parted depth [] = [] ∷ []
parted depth (b ∷ text) =
    if depth == 0 && is_separator b then [] ∷ parted 0 text else onto_first b (parted (open_behind depth b) text)

-- the parts that are not empty
abbrev pub words_in : List ℕ → List (List ℕ)
words_in text = filter (λ word. nat_lt 0 (length word)) (parted 0 text)

-- the words, unless a brace has no partner
abbrev pub unless_lone : List ℕ → Option ℕ → Result (List (List ℕ)) WordsFault
unless_lone text None = Ok (words_in text)
unless_lone text (Some at) = Err (Unbalanced at)

-- the words of a value
unfoldable pub words_of : List ℕ → Result (List (List ℕ)) WordsFault
words_of value = unless_lone value (lone_brace 0 value)
