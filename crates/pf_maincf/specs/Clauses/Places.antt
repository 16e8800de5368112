-- The places of the last settings of names, as the code keeps them. Words of the code's contracts, by no standard.
use Rattle.std.specs.Prelude.{◌≡◌, ℕ, List, Option, None, Some, if◌then◌else◌}
use Rattle.std.specs.BTreeMap as tree
use Rattle.std.specs.Cmp.Lexicographic.{slice_cmp}
use Rattle.std.specs.List.{slice_get}
use Rattle.std.specs.Option.{option_map}
use Rattle.std.specs.Ordering.{nat_cmp}
use Rattle.std.specs.Str.{bytes_eq}
use Rattle.pf_maincf.specs.Settings.{last_setting}
use Rattle.pf_maincf.specs.declared.places.Places.{Places}
use Rattle.pf_maincf.specs.declared.setting.Setting.{Setting}

-- the place of a name
abbrev pub place_in : Places → List ℕ → Option ℕ
place_in p name = tree.get_by (λ k. slice_cmp nat_cmp name k.items) p.places

-- one name has this place now, and each other one that which it had
abbrev pub Puts : (List ℕ → Option ℕ) → (List ℕ → Option ℕ) → List ℕ → ℕ → Type 0
Puts old new set place = (name : List ℕ) → new name ≡ (if bytes_eq set name then Some place else old name)

-- the last setting of each name is at its place
abbrev pub AreLast : (List ℕ → Option ℕ) → List Setting → Type 0
AreLast places settings = (name : List ℕ) → option_map (slice_get settings) (places name) ≡ option_map Some (last_setting settings name)
