-- What postconf prints and what it warns of (postconf(1)). How a warning is printed is postgate's own.
use Rattle.std.specs.Prelude.{ℕ, ◌++◌, List, [], ◌∷◌, Result, Ok, codes, if◌then◌else◌}
use Rattle.std.specs.List.{flat_map}
use Rattle.pf_base.specs.Text.Ascii as ascii
use Rattle.pf_base.specs.Text.Printing.{printed_line}
use Rattle.pf_base.specs.Results.{◌>>=◌}
use Rattle.pf_base.specs.declared.refused.Refused.{Refused}
use Rattle.pf_maincf.specs.Settings.{Conf}
use Rattle.pf_tools.specs.Asked.{is_known, is_shown}
use Rattle.pf_tools.specs.Values.{value_shown}
use Rattle.pf_words.specs.declared.postconf.ConfWords.{ConfWords}
use Rattle.pf_words.specs.declared.postconf.Shape.{Shape}
use Rattle.pf_words.specs.declared.postconf.Shape.TheVariants as shape

-- a value with a blank before it; nothing where it is empty
abbrev pub behind_sign : List ℕ → List ℕ
behind_sign [] = []
behind_sign (b ∷ bytes) = ascii.space ∷ b ∷ bytes

-- what is in a line: name and value, the value alone, or the name alone; an empty value has no blank before it
abbrev pub line_text : Shape → List ℕ → List ℕ → List ℕ
line_text shape.Both name value = name ++ codes " =" ++ behind_sign value
line_text shape.Values name value = value
line_text shape.Names name value = name

-- the line of a name that is shown; of another name nothing
abbrev pub shown_line : ConfWords → Conf → List ℕ → Result (List ℕ) Refused
shown_line words s name = do
  value ← value_shown words s name
  Ok (line_text words.shape name value ++ ascii.line_feed ∷ [])

abbrev pub line_of : ConfWords → Conf → List ℕ → Result (List ℕ) Refused
line_of words s name = if is_shown words.mode s name then shown_line words s name else Ok []

-- the lines of names, or the first refusal of one
abbrev pub lines_of : ConfWords → Conf → List (List ℕ) → Result (List ℕ) Refused
lines_of words s [] = Ok []
lines_of words s (name ∷ names) = do
  line ← line_of words s name
  lines ← lines_of words s names
  Ok (line ++ lines)

-- the warning of a name that is not known
abbrev pub warning_of : Conf → List ℕ → List ℕ
warning_of s name = if is_known s name then [] else printed_line (codes "postgate: warning: " ++ name ++ codes ": unknown parameter")

-- the warnings of names
abbrev pub warnings_of : Conf → List (List ℕ) → List ℕ
warnings_of s names = flat_map (warning_of s) names
