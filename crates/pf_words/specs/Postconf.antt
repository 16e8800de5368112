-- The words of postconf (postconf(1)): postconf [-n or -d] [-x] [-h or -H] [-c folder] [-o name=value] [name ..], and postconf -e [-c folder]
-- name=value .. for an edit. Which options are beside which is postgate's own.
use Rattle.std.specs.Prelude.{ℕ, ◌&&◌, ◌||◌, Bool, true, false, not, nat_lt, List, Option, Some, None, length, codes, is_some, if◌then◌else◌}
use Rattle.std.specs.Option.{option_and_then, option_map_or}
use Rattle.clap.specs.Words.{Row}
use Rattle.pf_words.specs.Commands.{postconf_app}
use Rattle.pf_words.specs.Found.{has_flag, rest_in, rows_in, value_in}
use Rattle.pf_words.specs.Assignments.{assignment_of_word, assignments_of_words}
use Rattle.pf_words.specs.declared.postconf.ConfMode.{ConfMode}
use Rattle.pf_words.specs.declared.postconf.ConfMode.TheVariants as mode
use Rattle.pf_words.specs.declared.postconf.ConfWords.{ConfWords}
use Rattle.pf_words.specs.declared.postconf.Shape.{Shape}
use Rattle.pf_words.specs.declared.postconf.Shape.TheVariants as shape

-- what is asked: an edit, the settings that are set, the defaults, or all
abbrev pub mode_in : List Row → ConfMode
mode_in rows =
    if has_flag (codes "edit") rows then mode.Edit
    else (if has_flag (codes "set") rows then mode.Set
    else (if has_flag (codes "defaults") rows then mode.Defaults
    else mode.All))

-- what is printed of a setting: its value, its name, or both
abbrev pub shape_in : List Row → Shape
shape_in rows =
    if has_flag (codes "values") rows then shape.Values
    else (if has_flag (codes "names") rows then shape.Names
    else shape.Both)

-- something is said of how to print
abbrev pub has_print_option : List Row → Bool
has_print_option rows =
    has_flag (codes "set") rows || has_flag (codes "defaults") rows || has_flag (codes "expanded") rows || has_flag (codes "values") rows
    || has_flag (codes "names") rows || is_some (value_in (codes "over") rows)

-- at most one of -n and -d, at most one of -h and -H, and beside -e nothing of how to print
abbrev pub options_agree : List Row → Bool
options_agree rows =
    not (has_flag (codes "set") rows && has_flag (codes "defaults") rows)
    && not (has_flag (codes "values") rows && has_flag (codes "names") rows)
    && not (has_flag (codes "edit") rows && has_print_option rows)

-- the value of -o sets a parameter
abbrev pub is_over : Option (List ℕ) → Bool
is_over over = option_map_or (λ word. is_some (assignment_of_word word)) over true

-- there is a word, and each sets a parameter, no two the same
abbrev pub are_edits : List (List ℕ) → Bool
are_edits words = nat_lt 0 (length words) && is_some (assignments_of_words words)

-- what the options and the further words say
abbrev pub conf_with : List Row → ConfWords
conf_with rows = record {
  mode = mode_in rows;
  expanded = has_flag (codes "expanded") rows;
  shape = shape_in rows;
  folder = value_in (codes "folder") rows;
  over = value_in (codes "over") rows;
  rest = rest_in rows;
}

-- an edit is asked
abbrev pub is_edit : ConfMode → Bool
is_edit mode.Edit = true
is_edit other = false

-- the word of -o and the words of an edit set parameters
abbrev pub sets_parameters : ConfWords → Bool
sets_parameters conf = is_over conf.over && (if is_edit conf.mode then are_edits conf.rest else true)

-- what they say, where the options agree and parameters are set where they have to be
unfoldable pub conf_in : List Row → Option ConfWords
conf_in rows = if options_agree rows && sets_parameters (conf_with rows) then Some (conf_with rows) else None

-- what the words of postconf say; none where they are not of its forms
unfoldable pub conf_of : List (List ℕ) → Option ConfWords
conf_of words = option_and_then conf_in (rows_in postconf_app words)
