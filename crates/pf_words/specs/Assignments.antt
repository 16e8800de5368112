-- Words that set a parameter, name=value (postconf(1), -e and -o). Which settings a line can say is pf_maincf's.
use Rattle.std.specs.Prelude.{ℕ, ◌+◌, ◌==◌, List, [], ◌∷◌, Option, Some, None, take, drop, if◌then◌else◌}
use Rattle.std.specs.List.{position}
use Rattle.std.specs.Option.{option_and_then, option_map}
use Rattle.pf_base.specs.Text.Ascii as ascii
use Rattle.pf_maincf.specs.Edit.{are_assignments, is_writable}
use Rattle.pf_maincf.specs.declared.setting.Setting.{Setting}

-- the setting of a word that is parted at a place, the byte there left out
abbrev pub setting_at : List ℕ → ℕ → Setting
setting_at word place = record { line = 0; name = take place word; value = drop (place + 1) word }

-- a setting, where an edit can write it
abbrev pub where_assignment : Setting → Option Setting
where_assignment set = if is_writable set then Some set else None

-- the setting of a word that is parted at its first equals sign, where an edit can write it
unfoldable pub assignment_of_word : List ℕ → Option Setting
assignment_of_word word = option_and_then (λ place. where_assignment (setting_at word place)) (position (λ b. b == ascii.equals_sign) word)

-- what each word is, where each is something
abbrev pub all_of : {A : Type 0} → (List ℕ → Option A) → List (List ℕ) → Option (List A)
all_of f [] = Some []
all_of f (word ∷ words) = option_and_then (λ first. option_map (λ others. first ∷ others) (all_of f words)) (f word)

-- settings, where an edit can write each of them and no name comes twice
abbrev pub where_assignments : List Setting → Option (List Setting)
where_assignments sets = if are_assignments sets then Some sets else None

-- the settings of words in order, where each is one and no name comes twice
unfoldable pub assignments_of_words : List (List ℕ) → Option (List Setting)
assignments_of_words words = option_and_then where_assignments (all_of assignment_of_word words)
