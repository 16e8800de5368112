-- The commands as clap is told of them. The commands, and the letters of smtpd, are postgate's own; the letters of postconf are those of
-- postconf(1), those of postmap of postmap(1), but for -b. How options are written is clap's reading of the utility syntax guidelines (POSIX.1-2017, Base Definitions, 12.2).
use Rattle.std.specs.Prelude.{ℕ, true, List, [], ◌∷◌, Some, codes, fold}
use Rattle.clap.specs.Lexer.{usize_max}
use Rattle.clap.specs.Simple.{on_top}
use Rattle.clap.specs.Words.{App, Rule, Text, app_of, new_app, new_rule, with_rule}
use Rattle.clap.specs.declared.builder.action.ArgAction.TheVariants.{Set, SetTrue}
use Rattle.clap.specs.declared.builder.command.Command.{Command}

-- what clap reads of a command
unfoldable pub app_in : Command → App
app_in command = app_of command

-- an option with a value, under its letter
abbrev pub option_rule : ℕ → Text → Rule
option_rule letter id = record (new_rule id) { short = Some letter; action = Some Set }

-- a flag, under its letter
abbrev pub flag_rule : ℕ → Text → Rule
flag_rule letter id = record (new_rule id) { short = Some letter; action = Some SetTrue }

-- any number of words that are no options
abbrev pub rest_rule : Text → Rule
rest_rule id = record (new_rule id) { range = Some (record { start_inclusive = 0; end_inclusive = usize_max }) }

-- a command without flags that ask for help or its version
unfoldable pub bare_app : Text → App
bare_app name = on_top (λ shape. record shape { disable_help_flag = true; disable_version_flag = true }) (new_app name)

-- a command with an option more
unfoldable pub with_option : App → ℕ → Text → App
with_option app letter id = with_rule app (option_rule letter id)

-- a command with a flag more
unfoldable pub with_flag : App → ℕ → Text → App
with_flag app letter id = with_rule app (flag_rule letter id)

-- a command with words that are no options
unfoldable pub with_rest : App → Text → App
with_rest app id = with_rule app (rest_rule id)

-- a command with these options more, each a letter and an id
abbrev pub with_options : App → List (ℕ × Text) → App
with_options = fold (λ app option. with_option app option.0 option.1)

-- a command with these flags more, each a letter and an id
abbrev pub with_flags : App → List (ℕ × Text) → App
with_flags = fold (λ app flag. with_flag app flag.0 flag.1)

-- the options of smtpd: -c, -p, -m, -l and -b
abbrev pub smtpd_options : List (ℕ × Text)
smtpd_options = (99, codes "folder") ∷ (112, codes "client") ∷ (109, codes "mail") ∷ (108, codes "log") ∷ (98, codes "budget") ∷ []

-- the flags of postconf: -n, -d, -x, -h, -H and -e
abbrev pub postconf_flags : List (ℕ × Text)
postconf_flags = (110, codes "set") ∷ (100, codes "defaults") ∷ (120, codes "expanded") ∷ (104, codes "values") ∷ (72, codes "names")
    ∷ (101, codes "edit") ∷ []

-- its options: -c and -o
abbrev pub postconf_options : List (ℕ × Text)
postconf_options = (99, codes "folder") ∷ (111, codes "over") ∷ []

-- the flags of postmap: -r, -w, -s and -f
abbrev pub postmap_flags : List (ℕ × Text)
postmap_flags = (114, codes "replace") ∷ (119, codes "quiet") ∷ (115, codes "elements") ∷ (102, codes "unfolded") ∷ []

-- its options: -q and -b
abbrev pub postmap_options : List (ℕ × Text)
postmap_options = (113, codes "query") ∷ (98, codes "budget") ∷ []

-- smtpd as clap is told of it
abbrev pub smtpd_app : App
smtpd_app = with_options (bare_app (codes "smtpd")) smtpd_options

-- postconf as clap is told of it
abbrev pub postconf_app : App
postconf_app = with_rest (with_options (with_flags (bare_app (codes "postconf")) postconf_flags) postconf_options) (codes "rest")

-- postmap as clap is told of it
abbrev pub postmap_app : App
postmap_app = with_rest (with_options (with_flags (bare_app (codes "postmap")) postmap_flags) postmap_options) (codes "rest")
