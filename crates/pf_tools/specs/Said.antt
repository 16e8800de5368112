-- What postconf says of a main.cf (postconf(1)). The causes of refusals are postgate's own.
use Rattle.std.specs.Prelude.{ℕ, Bool, true, false, List, [], Option, None, Some, Result, Ok, if◌then◌else◌}
use Rattle.std.specs.Option.{option_to_list, unwrap_or}
use Rattle.pf_base.specs.Results.{◌>>=◌}
use Rattle.pf_base.specs.declared.refused.Refused.{Refused}
use Rattle.pf_maincf.specs.Edit.{edited}
use Rattle.pf_maincf.specs.File.{conf_text}
use Rattle.pf_maincf.specs.Settings.{Conf, conf_of}
use Rattle.pf_maincf.specs.declared.setting.Setting.{Setting}
use Rattle.pf_params.specs.Accepted.{accepted}
use Rattle.pf_tools.specs.Asked.{asked_names}
use Rattle.pf_tools.specs.Printed.{lines_of, warnings_of}
use Rattle.pf_tools.specs.declared.said.Said.{Said}
use Rattle.pf_tools.specs.declared.said.Said.TheVariants.{Edited, Printed}
use Rattle.pf_words.specs.Postconf.{is_edit}
use Rattle.pf_words.specs.Assignments.{assignment_of_word, assignments_of_words}
use Rattle.pf_words.specs.declared.postconf.ConfWords.{ConfWords}

-- it is an edited text
abbrev pub is_edited : Said → Bool
is_edited (Printed lines warnings) = false
is_edited (Edited text) = true

-- the lines and the warnings of names
abbrev pub printed_of : ConfWords → Conf → List (List ℕ) → Result Said Refused
printed_of words s names = do
  lines ← lines_of words s names
  Ok (Printed lines (warnings_of s names))

-- the setting of the word of -o, if there is one
abbrev pub over_of : Option (List ℕ) → List Setting
over_of None = []
over_of (Some word) = option_to_list (assignment_of_word word)

-- the settings of the words of an edit
abbrev pub edits_of : List (List ℕ) → List Setting
edits_of words = unwrap_or (assignments_of_words words) []

-- what is printed of a main.cf of this name and text
unfoldable pub printed : List ℕ → ConfWords → List ℕ → Result Said Refused
printed file words text = do
  conf ← conf_of file text
  s ← accepted conf (over_of words.over)
  printed_of words s (asked_names words s)

-- the text of a main.cf after an edit
unfoldable pub edited_by : List ℕ → ConfWords → List ℕ → Result Said Refused
edited_by file words text = do
  new ← edited file text (edits_of words.rest)
  Ok (Edited new)

-- what is said of a main.cf that was read
abbrev pub text_said : List ℕ → ConfWords → List ℕ → Result Said Refused
text_said file words text = if is_edit words.mode then edited_by file words text else printed file words text

-- what is said of it
abbrev pub file_said : List ℕ → ConfWords → Option (List ℕ) → Result Said Refused
file_said file words bytes = do
  text ← conf_text file bytes
  text_said file words text
