-- A text in its parts as a list: a choice is its name, its two texts and its end. Words of the code's contracts.
use Rattle.std.specs.Prelude.{◌++◌, ℕ, List, [], ◌∷◌, Option}
use Rattle.std.specs.Option.{option_map}
use Rattle.pf_expand.specs.Expansion.{Text, parts_of}
use Rattle.pf_expand.specs.Expansion.{Text as text}
use Rattle.pf_expand.specs.declared.token.Token.{Token}
use Rattle.pf_expand.specs.declared.token.Token.TheVariants.{Literal, Name, Choose, Otherwise, End}

-- the list of a text
abbrev pub flat : Text → List Token
flat text.end = []
flat (text.literal bytes rest) = Literal bytes ∷ flat rest
flat (text.value name rest) = Name name ∷ flat rest
flat (text.choice name full empty rest) = Choose name ∷ (flat full ++ (Otherwise ∷ (flat empty ++ (End ∷ flat rest))))

-- None where a dollar sign begins no form
abbrev pub tokens_of : List ℕ → Option (List Token)
tokens_of text = option_map flat (parts_of text)
