-- Which names are asked for, and which of them are known and are shown (postconf(1)).
use Rattle.std.specs.Prelude.{ℕ, ◌++◌, ◌||◌, Bool, false, List, [], ◌∷◌, map, is_some}
use Rattle.pf_catalogue.specs.Catalogue.{catalogue, place_of}
use Rattle.pf_maincf.specs.Settings.{Conf, is_set}
use Rattle.pf_tools.specs.Clauses.Ordering.{in_order}
use Rattle.pf_words.specs.declared.postconf.ConfMode.{ConfMode}
use Rattle.pf_words.specs.declared.postconf.ConfMode.TheVariants as mode
use Rattle.pf_words.specs.declared.postconf.ConfWords.{ConfWords}

-- a parameter of the catalogue
abbrev pub is_parameter : List ℕ → Bool
is_parameter name = is_some (place_of name)

-- such a name, or one that main.cf or -o sets
abbrev pub is_known : Conf → List ℕ → Bool
is_known s name = is_parameter name || is_set s name

-- a name that is shown: with -n one that is set, with -d one of the catalogue, and else any that is known
abbrev pub is_shown : ConfMode → Conf → List ℕ → Bool
is_shown mode.All s name = is_known s name
is_shown mode.Set s name = is_set s name
is_shown mode.Defaults s name = is_parameter name
is_shown mode.Edit s name = false

-- the names of the catalogue, and those that are set
abbrev pub parameter_names : List (List ℕ)
parameter_names = map (λ row. row.name) catalogue

abbrev pub set_names : Conf → List (List ℕ)
set_names s = map (λ setting. setting.name) s.settings

-- the names that are shown where the words name none
abbrev pub names_of : ConfMode → Conf → List (List ℕ)
names_of mode.All s = parameter_names ++ set_names s
names_of mode.Set s = set_names s
names_of mode.Defaults s = parameter_names
names_of mode.Edit s = []

-- the names that are shown, in byte order
abbrev pub shown_names : ConfMode → Conf → List (List ℕ)
shown_names mode s = (in_order (names_of mode s)).list

-- the names that the words have, or else others
abbrev pub names_or : List (List ℕ) → List (List ℕ) → List (List ℕ)
names_or [] others = others
names_or (name ∷ names) others = name ∷ names

-- the names that are asked for: those of the words in their order, and where they have none all that are shown
abbrev pub asked_names : ConfWords → Conf → List (List ℕ)
asked_names words s = names_or words.rest (shown_names words.mode s)
