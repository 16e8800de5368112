-- The settings of a main.cf (postconf(5), main.cf format).
use Rattle.std.specs.Prelude.{ℕ, ◌+◌, ◌==◌, ◌&&◌, ◌||◌, Bool, not, nat_le, nat_lt, List, [], ◌∷◌, Option, None, Some, Result, Ok, Err, is_some, length, reverse, take, drop, if◌then◌else◌}
use Rattle.std.specs.List.{find, list_all, position}
use Rattle.std.specs.Option.{option_map, option_map_or}
use Rattle.std.specs.Str.{bytes_eq}
use Rattle.pf_base.specs.Text.Ascii as ascii
use Rattle.pf_base.specs.Text.Logical.{Grouped, Physical, grouped, physical_lines}
use Rattle.pf_base.specs.Refusal.{refused}
use Rattle.pf_base.specs.Results.{◌>>=◌}
use Rattle.pf_base.specs.Text.Space.{trimmed}
use Rattle.pf_base.specs.declared.text.logical.Logical.{Logical}
use Rattle.pf_base.specs.declared.refused.Cause.TheVariants.{C1, C2, C3}
use Rattle.pf_base.specs.declared.refused.Refused.{Refused}
use Rattle.pf_maincf.specs.declared.setting.Setting.{Setting}

-- a file's name and its settings in order
pub record Conf : Type 0 where
  pub file : List ℕ
  pub settings : List Setting

-- a logical line is parted at its first equals sign, and space round the name and the value is dropped
abbrev pub setting_of : Logical → Option Setting
setting_of logical =
    option_map (λ i. record { line = logical.line; name = trimmed (take i logical.text); value = trimmed (drop (i + 1) logical.text) })
    (position (λ b. b == ascii.equals_sign) logical.text)

-- a printing byte that is no blank, and none of those that a value writes names with: dollar sign, braces and parentheses
abbrev pub is_name_byte : ℕ → Bool
is_name_byte b = nat_le 33 b && nat_le b 126 && not (b == ascii.dollar_sign || b == ascii.left_parenthesis || b == ascii.right_parenthesis
    || b == ascii.left_brace || b == ascii.right_brace)

-- a parameter's name: which bytes it may hold is postgate's own
abbrev pub is_name : List ℕ → Bool
is_name name = nat_lt 0 (length name) && list_all is_name_byte name

-- the setting of a line, or the refusal of one without an equals sign or with a bad name
abbrev pub or_refused : List ℕ → Logical → Option Setting → Result Setting Refused
or_refused file logical None = Err (refused file logical.line C2 [])
or_refused file logical (Some setting) = if is_name setting.name then Ok setting else Err (refused file logical.line C3 [])

-- the settings of logical lines in order, or the first of the lines that is refused
abbrev pub settings_of : List ℕ → List Logical → Result (List Setting) Refused
settings_of file [] = Ok []
settings_of file (logical ∷ lines) = do
  setting ← or_refused file logical (setting_of logical)
  settings ← settings_of file lines
  Ok (setting ∷ settings)

-- settings, unless lines before them continue nothing
abbrev pub unless_continued : List ℕ → List Physical → Result (List Setting) Refused → Result (List Setting) Refused
unless_continued file [] settings = settings
unless_continued file (line ∷ lines) settings = Err (refused file line.number C1 [])

-- the settings of a text whose lines are grouped so, or the first of its lines that is refused
abbrev pub settings_in : List ℕ → Grouped → Result (List Setting) Refused
settings_in file g = unless_continued file g.leading (settings_of file g.logical)

-- a main.cf of these settings
abbrev pub conf_with : List ℕ → Result (List Setting) Refused → Result Conf Refused
conf_with file answer = do
  settings ← answer
  Ok (record { file = file; settings = settings })

-- a main.cf of this name and text
unfoldable pub conf_of : List ℕ → List ℕ → Result Conf Refused
conf_of file text = conf_with file (settings_in file (grouped (physical_lines text)))

-- the last setting of a name
abbrev pub last_setting : List Setting → List ℕ → Option Setting
last_setting settings name = find (λ setting. bytes_eq setting.name name) (reverse settings)

-- a name that is set
abbrev pub is_set : Conf → List ℕ → Bool
is_set conf name = is_some (last_setting conf.settings name)

-- the line of the last setting of a name, 0 where it is not set
abbrev pub line_of : Conf → List ℕ → ℕ
line_of conf name = option_map_or (λ (s : Setting). s.line) (last_setting conf.settings name) 0
