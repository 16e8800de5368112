-- Names that differ, by the first setting.
use Rattle.std.proofs.Common.{◌≡◌, ℕ, ◌&&◌, ◌||◌, Bool, not, List, [], ◌∷◌, drop, map, refl, ap}
use Rattle.std.specs.List.{list_any}
use Rattle.std.specs.Str.{bytes_eq}
use Rattle.pf_maincf.specs.Edit.{differ, first_differs}
use Rattle.pf_maincf.specs.declared.setting.Setting.{Setting}

any_name : (p : List ℕ → Bool) (assignments : List Setting) → list_any p (map (λ (assignment : Setting). assignment.name) assignments) ≡ list_any (λ (assignment : Setting). p assignment.name) assignments
any_name p [] = refl
any_name p (assignment ∷ assignments) = ap (λ b. p assignment.name || b) (any_name p assignments)

pub differ_step : (assignments : List Setting) → differ (map (λ (assignment : Setting). assignment.name) assignments) ≡ (first_differs assignments && differ (map (λ (assignment : Setting). assignment.name) (drop 1 assignments)))
differ_step [] = refl
differ_step (assignment ∷ assignments) = ap (λ b. not b && differ (map (λ (assignment : Setting). assignment.name) assignments)) (any_name (bytes_eq assignment.name) assignments)
