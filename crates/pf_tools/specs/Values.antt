-- The values that are shown of names (postconf(1)). The causes of refusals are postgate's own.
use Rattle.std.specs.Prelude.{ℕ, Bool, true, false, List, [], Result, Ok, Err, if◌then◌else◌}
use Rattle.pf_base.specs.Meanings.{Source}
use Rattle.pf_base.specs.declared.meaning.Meaning.TheVariants.{Is, DomainOf}
use Rattle.pf_base.specs.declared.refused.Refused.{Refused}
use Rattle.pf_expand.specs.Expansion.{Answer}
use Rattle.pf_maincf.specs.Settings.{Conf, line_of}
use Rattle.pf_params.specs.Parameters.{refusal_of}
use Rattle.pf_params.specs.Settled.{cause_of, meaning_value, settled_source}
use Rattle.pf_params.specs.Sources.{default_value_of}
use Rattle.pf_words.specs.declared.postconf.ConfMode.{ConfMode}
use Rattle.pf_words.specs.declared.postconf.ConfMode.TheVariants as mode
use Rattle.pf_words.specs.declared.postconf.ConfWords.{ConfWords}
use Rattle.pf_words.specs.declared.postconf.Shape.{Shape}
use Rattle.pf_words.specs.declared.postconf.Shape.TheVariants as shape

-- what a name stands for: with -d by default, and else where the settings count
abbrev pub source_in : ConfMode → Conf → List ℕ → Source
source_in mode.Defaults s name = default_value_of name
source_in mode s name = settled_source s name

-- what is shown of it: with -x its value, and else its text, where it is one
abbrev pub shown : Bool → Conf → Source → Answer
shown expanded s (Is bytes) = if expanded then meaning_value s (Is bytes) else Ok bytes
shown expanded s (DomainOf name) = meaning_value s (DomainOf name)

-- the line of the setting that is shown of a name; a default is in none
abbrev pub line_in : ConfMode → Conf → List ℕ → ℕ
line_in mode.Defaults s name = 0
line_in mode s name = line_of s name

-- a value of a name, or the refusal of its setting
abbrev pub unless_flawed : ConfMode → Conf → List ℕ → Answer → Result (List ℕ) Refused
unless_flawed mode s name (Ok value) = Ok value
unless_flawed mode s name (Err flaw) = Err (record (refusal_of s name (cause_of flaw)) { line = line_in mode s name })

-- names alone are printed
abbrev pub is_names : Shape → Bool
is_names shape.Names = true
is_names other = false

-- the value that is shown of a name, or its refusal
abbrev pub named_value : ConfWords → Conf → List ℕ → Result (List ℕ) Refused
named_value words s name = unless_flawed words.mode s name (shown words.expanded s (source_in words.mode s name))

-- the value that is printed of a name, or its refusal; with -H none is
abbrev pub value_shown : ConfWords → Conf → List ℕ → Result (List ℕ) Refused
value_shown words s name = if is_names words.shape then Ok [] else named_value words s name
