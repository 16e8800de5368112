-- The words of a command line, without the program's own name: which command they name, and what they say. The commands are postgate's own.
use Rattle.std.specs.Prelude.{◌≡◌, ℕ, Bool, false, true, List, Option, Some, None, codes, slice_get, if◌then◌else◌}
use Rattle.std.specs.Option.{option_map, option_map_or}
use Rattle.std.specs.Str.{bytes_eq}
use Rattle.pf_words.specs.Postconf.{conf_of, sets_parameters}
use Rattle.pf_words.specs.Postmap.{map_of}
use Rattle.pf_words.specs.Smtpd.{smtpd_of}
use Rattle.pf_words.specs.declared.words.Words.{Words}
use Rattle.pf_words.specs.declared.words.Words.TheVariants.{Smtpd, Postconf, Postmap}

-- the first word is the command's name
abbrev pub names_command : List ℕ → List (List ℕ) → Bool
names_command name words = option_map_or (bytes_eq name) (slice_get words 0) false

-- what words say; none where they are not of the forms
unfoldable pub words_of : List (List ℕ) → Option Words
words_of words =
    if names_command (codes "smtpd") words then option_map Smtpd (smtpd_of words)
    else (if names_command (codes "postconf") words then option_map Postconf (conf_of words)
    else (if names_command (codes "postmap") words then option_map Postmap (map_of words)
    else None))

-- the name of the file for the record of messages, which smtpd alone has
abbrev pub mail_name : Option Words → Option (List ℕ)
mail_name (Some (Smtpd words)) = Some words.mail
mail_name other = None

-- the name of the file for the log, which smtpd alone has
abbrev pub log_name : Option Words → Option (List ℕ)
log_name (Some (Smtpd words)) = words.log
log_name other = None

-- the word of -o and the words of an edit set parameters
abbrev pub SetsParameters : Words → Type 0
SetsParameters (Smtpd words) = Unit {0}
SetsParameters (Postconf words) = sets_parameters words ≡ true
SetsParameters (Postmap words) = Unit {0}
