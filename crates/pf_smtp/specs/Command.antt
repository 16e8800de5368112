-- The parts of a command line (RFC 5321, 2.4 and 4.1.1).
use Rattle.std.specs.Prelude.{ℕ, ◌==◌, List, Option, Some, None, length, take, drop, codes, if◌then◌else◌}
use Rattle.std.specs.List.{before_first, after_first}
use Rattle.std.specs.Option.{option_and_then}
use Rattle.pf_base.specs.Text.Names.{same_in_any_case}
use Rattle.pf_base.specs.Text.Space.{is_space, trimmed}
use Rattle.pf_addr.specs.Spelled.{path_of}
use Rattle.pf_addr.specs.declared.address.Address.{Address}
use Rattle.pf_addr.specs.declared.address.Path.{Path}
use Rattle.pf_addr.specs.declared.address.PathRead.{PathRead}
use Rattle.pf_smtp.specs.declared.command.Verb.{Verb}
use Rattle.pf_smtp.specs.declared.command.Verb.TheVariants.{Empty, Helo, Mail, Rcpt, Quit, Other}

-- verbs are read in any case
abbrev pub verb_named : List ℕ → Verb
verb_named word =
    if same_in_any_case word (codes "HELO") then Helo
    else (if same_in_any_case word (codes "MAIL") then Mail
    else (if same_in_any_case word (codes "RCPT") then Rcpt
    else (if same_in_any_case word (codes "QUIT") then Quit
    else Other)))

-- the verb of a line without space at its ends: that of its first word
unfoldable pub verb_of : List ℕ → Verb
verb_of line = if length line == 0 then Empty else verb_named (before_first is_space line)

-- the argument of such a line: the rest, without space at its ends
abbrev pub argument_of : List ℕ → List ℕ
argument_of line = trimmed (after_first is_space line)

-- what comes after a keyword, which is read in any case
unfoldable pub after_keyword : List ℕ → List ℕ → Option (List ℕ)
after_keyword keyword argument =
    if same_in_any_case (take (length keyword) argument) keyword then Some (drop (length keyword) argument) else None

-- a path that ends with its text
abbrev pub ending : List ℕ → PathRead Address → Option (Path Address)
ending text read = if read.end == length text then Some read.path else None

-- the path that a text is after space: there is nothing after it, since no option is taken (RFC 5321, 4.1.1.11)
unfoldable pub whole_path : List ℕ → Option (Path Address)
whole_path text = option_and_then (ending text) (path_of text)
