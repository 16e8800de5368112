-- The value of a text (postconf(5), main.cf format). The limits on depth and length, and which refusal comes first, are postgate's own.
use Rattle.std.specs.Prelude.{ℕ, ◌++◌, zero, suc, nat_lt, List, [], ◌∷◌, Option, None, Some, Result, Ok, Err, length, if◌then◌else◌}
use Rattle.std.specs.Option.{option_and_then, option_map}
use Rattle.pf_base.specs.Options.{◌>>=◌}
use Rattle.pf_expand.specs.Forms.{Part, first_part}
use Rattle.pf_expand.specs.Forms.{Part as part}
use Rattle.pf_expand.specs.declared.flaw.Flaw.{Flaw}
use Rattle.pf_expand.specs.declared.flaw.Flaw.TheVariants.{BadForm, TooDeep, TooLong}

-- a text in its parts: bytes that stand for themselves, values of names, and choices of two texts
pub data Text : Type 0 where
  end : Text
  literal : List ℕ → Text → Text
  value : List ℕ → Text → Text
  choice : List ℕ → Text → Text → Text → Text

-- a choice of two texts, and the text after it
abbrev pub choice_of : List ℕ → Option Text → Option Text → Option Text → Option Text
choice_of name full empty rest = do
  f ← full
  e ← empty
  option_map (choice name f e) rest

-- a part and what is after it, where texts are parted so
abbrev pub parts_with : (List ℕ → Option Text) → Part × List ℕ → Option Text
parts_with parts (part.literal bytes, rest) = option_map (literal bytes) (parts rest)
parts_with parts (part.name name, rest) = option_map (value name) (parts rest)
parts_with parts (part.choice name full empty, rest) = choice_of name (parts full) (parts empty) (parts rest)

-- a text in its parts; None where a dollar sign begins no form, in the texts of a choice too. The number bounds the turns, and the length
-- of the text is always enough
unfoldable pub parts : ℕ → List ℕ → Option Text
parts n [] = Some end
parts zero (b ∷ text) = None
parts (suc n) (b ∷ text) = option_and_then (parts_with (parts n)) (first_part (b ∷ text))

abbrev pub parts_of : List ℕ → Option Text
parts_of text = parts (length text) text

-- a value, or why there is none
abbrev pub Answer : Type 0
Answer = Result (List ℕ) Flaw

-- of two flaws the one that is looked for first
abbrev pub first_flaw : Flaw → Flaw → Flaw
first_flaw BadForm other = BadForm
first_flaw TooDeep BadForm = BadForm
first_flaw TooDeep TooDeep = TooDeep
first_flaw TooDeep TooLong = TooDeep
first_flaw TooLong other = other

-- one value and then the other
abbrev pub joined : Answer → Answer → Answer
joined (Ok a) (Ok b) = Ok (a ++ b)
joined (Ok a) (Err flaw) = Err flaw
joined (Err flaw) (Ok b) = Err flaw
joined (Err flaw) (Err other) = Err (first_flaw flaw other)

-- by whether a value is empty the one or the other; a flaw of it stays
abbrev pub chosen : Answer → Answer → Answer → Answer
chosen (Ok []) full empty = empty
chosen (Ok (b ∷ bytes)) full empty = full
chosen (Err flaw) full empty = Err flaw

-- the value of a text in its parts, where names have these values
abbrev pub value_of : (List ℕ → Answer) → Text → Answer
value_of values end = Ok []
value_of values (literal bytes rest) = joined (Ok bytes) (value_of values rest)
value_of values (value name rest) = joined (values name) (value_of values rest)
value_of values (choice name full empty rest) =
    joined (chosen (values name) (value_of values full) (value_of values empty)) (value_of values rest)

-- the most bytes of a value
abbrev pub length_limit : ℕ
length_limit = 1048576

abbrev pub within_limit : Answer → Answer
within_limit (Ok bytes) = if nat_lt length_limit (length bytes) then Err TooLong else Ok bytes
within_limit (Err flaw) = Err flaw

-- the value of a text, where names have these values
abbrev pub value_or_bad : (List ℕ → Answer) → Option Text → Answer
value_or_bad values None = Err BadForm
value_or_bad values (Some text) = within_limit (value_of values text)

unfoldable pub text_value : (List ℕ → Answer) → List ℕ → Answer
text_value values text = value_or_bad values (parts_of text)

-- the bytes of a value, if it is there
abbrev pub content : Answer → List ℕ
content (Ok bytes) = bytes
content (Err flaw) = []
