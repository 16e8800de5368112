-- The settings of a main.cf with those that count after them, and the values of texts in which they are named (postconf(5), main.cf format).
use Rattle.std.specs.Prelude.{ℕ, ◌+◌, ◌++◌, Bool, true, false, List, [], Result, map}
use Rattle.std.specs.Result.{result_map_both}
use Rattle.pf_base.specs.Meanings.{Source}
use Rattle.pf_base.specs.Refusal.{refused}
use Rattle.pf_base.specs.declared.refused.Cause.{Cause}
use Rattle.pf_base.specs.declared.refused.Cause.TheVariants.{C4, C5, C16}
use Rattle.pf_base.specs.declared.refused.Refused.{Refused}
use Rattle.pf_expand.specs.Expansion.{Answer}
use Rattle.pf_expand.specs.Names.{depth_limit, expanded, name_value, source_value}
use Rattle.pf_expand.specs.declared.flaw.Flaw.{Flaw}
use Rattle.pf_expand.specs.declared.flaw.Flaw.TheVariants.{BadForm, TooDeep, TooLong}
use Rattle.pf_maincf.specs.Settings.{Conf}
use Rattle.pf_maincf.specs.declared.setting.Setting.{Setting}
use Rattle.pf_params.specs.Sources.{default_value_of, source_of}

-- a setting, at line 0 where it is in no file
abbrev pub line_if : Bool → Setting → Setting
line_if true setting = setting
line_if false setting = record setting { line = 0 }

-- the settings of a main.cf, and after them those that count after them
abbrev pub settled : Conf → List Setting → Conf
settled conf over = record { file = conf.file; settings = map (line_if true) conf.settings ++ map (line_if false) over }

-- what a name stands for
abbrev pub settled_source : Conf → List ℕ → Source
settled_source settled name = source_of default_value_of settled.settings name

-- the cause of a refusal
abbrev pub cause_of : Flaw → Cause
cause_of BadForm = C5
cause_of TooDeep = C4
cause_of TooLong = C16

-- a value, or its refusal, which has no line and names nothing
abbrev pub or_refused : List ℕ → Answer → Result (List ℕ) Refused
or_refused file value = result_map_both (λ bytes. bytes) (λ flaw. refused file 0 (cause_of flaw) []) value

-- the value of a text
abbrev pub value_in : Conf → List ℕ → Result (List ℕ) Refused
value_in settled text = or_refused settled.file (expanded (settled_source settled) text)

-- the value of what a name stands for
abbrev pub meaning_value : Conf → Source → Answer
meaning_value conf meaning = source_value (name_value (settled_source conf) depth_limit) meaning

-- the value of a name as it is alone, one level above the names in a text
abbrev pub value_alone : Conf → List ℕ → Answer
value_alone settled name = name_value (settled_source settled) (depth_limit + 1) name
