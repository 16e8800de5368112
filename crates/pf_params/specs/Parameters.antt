-- What is read of the parameters, and which is refused first (postconf(5)). The causes of refusals and their order are postgate's own.
use Rattle.std.specs.Prelude.{ℕ, Bool, true, not, List, Option, None, Some, Result, Ok, Err, if◌then◌else◌}
use Rattle.std.specs.Cmp.Lexicographic.{slice_cmp}
use Rattle.std.specs.List.{filter_map}
use Rattle.std.specs.Option.{option_map_or}
use Rattle.std.specs.Ordering.{nat_cmp, is_lt}
use Rattle.std.specs.Result.{result_err, result_map_both}
use Rattle.pf_base.specs.Meanings.{Source}
use Rattle.pf_base.specs.Refusal.{refused}
use Rattle.pf_base.specs.declared.meaning.Meaning.TheVariants.{Is, DomainOf}
use Rattle.pf_base.specs.declared.refused.Cause.{Cause}
use Rattle.pf_base.specs.declared.refused.Cause.TheVariants.{C6, C14}
use Rattle.pf_base.specs.declared.refused.Refused.{Refused}
use Rattle.pf_catalogue.specs.Catalogue.{Row}
use Rattle.pf_catalogue.specs.Values.{value_of}
use Rattle.pf_catalogue.specs.declared.kind.Kind.{Kind}
use Rattle.pf_catalogue.specs.declared.kind.Kind.TheVariants.{FixedYes, Unset}
use Rattle.pf_catalogue.specs.declared.value.Value.{Value}
use Rattle.pf_expand.specs.Expansion.{Answer}
use Rattle.pf_maincf.specs.Settings.{Conf, is_set, last_setting, line_of}
use Rattle.pf_maincf.specs.declared.setting.Setting.{Setting}
use Rattle.pf_params.specs.Settled.{cause_of, value_alone}
use Rattle.pf_params.specs.declared.readings.Reading.{Reading}

-- the refusal of a name's setting
abbrev pub refusal_of : Conf → List ℕ → Cause → Refused
refusal_of settled name cause = refused settled.file (line_of settled name) cause name

-- a parameter of this kind may be as it is, set or not
abbrev pub may_stand : Kind → Bool → Bool
may_stand Unset is_set = not is_set
may_stand kind is_set = true

-- the cause of the refusal of a value that is none of its kind
abbrev pub bad_value : Kind → Cause
bad_value FixedYes = C14
bad_value Unset = C14
bad_value kind = C6

-- the text of a default, which is the value where that is taken out of another one
abbrev pub default_value_text : Source → List ℕ → List ℕ
default_value_text (Is bytes) value = bytes
default_value_text (DomainOf name) value = value

-- the text of a parameter with this value
abbrev pub raw_text : Conf → Row → List ℕ → List ℕ
raw_text settled row value = option_map_or (λ (s : Setting). s.value) (last_setting settled.settings row.name) (default_value_text row.default_value value)

-- what is read of a parameter with this value, if that says something
abbrev pub reading_if : Conf → Row → List ℕ → Option Value → Result Reading Cause
reading_if settled row text None = Err (bad_value row.kind)
reading_if settled row text (Some value) =
    if may_stand row.kind (is_set settled row.name)
    then Ok (record { line = line_of settled row.name; raw = raw_text settled row text; text = text; value = value })
    else Err C14

abbrev pub reading_with : Conf → Row → List ℕ → Result Reading Cause
reading_with settled row text = reading_if settled row text (value_of row.kind text)

-- what is read of a parameter, or the cause of its refusal: first of its value, then of its kind
abbrev pub reading_from : Conf → Row → Answer → Result Reading Cause
reading_from settled row (Ok text) = reading_with settled row text
reading_from settled row (Err flaw) = Err (cause_of flaw)

unfoldable pub reading_of : Conf → Row → Result Reading Cause
reading_of settled row = reading_from settled row (value_alone settled row.name)

-- what is read of a parameter, or its refusal
abbrev pub row_read : Conf → Row → Result Reading Refused
row_read settled row = result_map_both (λ reading. reading) (refusal_of settled row.name) (reading_of settled row)

-- the refusals of parameters, in their order
abbrev pub row_refusal : Conf → Row → Option Refused
row_refusal settled row = result_err (row_read settled row)

abbrev pub refusals : Conf → List Row → List Refused
refusals settled rows = filter_map (row_refusal settled) rows

-- of two refusals the one whose name is less in byte order, the first where they have one name
abbrev pub with_lesser : Option Refused → Refused → Option Refused
with_lesser None second = Some second
with_lesser (Some first) second = if is_lt (slice_cmp nat_cmp second.name first.name) then Some second else Some first
