-- What names stand for: the text of the last setting of a name, and else the default of the parameter of that name (postconf(5), main.cf
-- format).
use Rattle.std.specs.Prelude.{ℕ, List, []}
use Rattle.std.specs.List.{find}
use Rattle.std.specs.Option.{option_map_or}
use Rattle.std.specs.Str.{bytes_eq}
use Rattle.pf_base.specs.Meanings.{Source}
use Rattle.pf_base.specs.declared.meaning.Meaning.TheVariants.{Is}
use Rattle.pf_catalogue.specs.Catalogue.{Row, catalogue}
use Rattle.pf_maincf.specs.Settings.{last_setting}
use Rattle.pf_maincf.specs.declared.setting.Setting.{Setting}

-- what a name stands for by the parameter of that name among these; an empty text where there is none
abbrev pub default_value_among : List Row → List ℕ → Source
default_value_among rows name = option_map_or (λ (r : Row). r.default_value) (find (λ (r : Row). bytes_eq r.name name) rows) (Is [])

-- what a name stands for that is not set
abbrev pub default_value_of : List ℕ → Source
default_value_of name = default_value_among catalogue name

-- what a name stands for, where these are set
abbrev pub source_of : (List ℕ → Source) → List Setting → List ℕ → Source
source_of default_values settings name = option_map_or (λ (s : Setting). Is s.value) (last_setting settings name) (default_values name)
