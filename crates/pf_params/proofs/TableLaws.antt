-- What names stand for once one more setting counts.
use Rattle.std.proofs.Common.{◌≡◌, ℕ, ◌+◌, ◌<◌, ◌++◌, suc, Bool, true, false, List, [], ◌∷◌, length, get_or, reverse, take, Some, refl, sym, ap, ◌∙◌, arith, cond, if◌then◌else◌}
use Rattle.std.proofs.Math.Seq.{take-suc}
use Rattle.std.proofs.lemmas.List.{reverse-append}
use Rattle.std.specs.List.{find}
use Rattle.std.specs.Str.{bytes_eq}
use Rattle.std.specs.Option.{option_map_or}
use Rattle.pf_base.specs.Meanings.{Source}
use Rattle.pf_base.specs.declared.meaning.Meaning.TheVariants.{Is}
use Rattle.pf_expand.specs.Clauses.Meanings.{AreNames, Kept, kept}
use Rattle.pf_expand.specs.Names.{with_source}
use Rattle.pf_maincf.specs.Settings.{last_setting}
use Rattle.pf_maincf.specs.declared.setting.Setting.{Setting}
use Rattle.pf_params.specs.Sources.{source_of}

-- the last setting of a name counts
source_set : (default_values : List ℕ → Source) (settings : List Setting) (setting : Setting) (name : List ℕ)
    → source_of default_values (settings ++ (setting ∷ [])) name ≡ with_source (source_of default_values settings) setting.name (Is setting.value) name
source_set default_values settings setting name =
    ap (λ back. option_map_or (λ (s : Setting). Is s.value) (find (λ (s : Setting). bytes_eq s.name name) back) (default_values name)) (reverse_last settings setting) ∙ by_test (bytes_eq setting.name name)
  where
    by_test : (t : Bool) → option_map_or (λ (s : Setting). Is s.value) (cond t (Some setting) (last_setting settings name)) (default_values name) ≡ (if t then Is setting.value else source_of default_values settings name)
    by_test true = refl
    by_test false = refl

    reverse_last : (settings : List Setting) (setting : Setting) → reverse (settings ++ (setting ∷ [])) ≡ setting ∷ reverse settings
    reverse_last settings setting = reverse-append settings (setting ∷ [])

-- one setting more
pub set_more : (new : List (List ℕ × Kept)) (default_values : List ℕ → Source) (settings more : List Setting) (setting : Setting)
    → AreNames new (with_source (source_of default_values settings) setting.name (Is setting.value)) → more ≡ settings ++ (setting ∷ [])
    → AreNames new (source_of default_values more)
set_more new default_values settings more setting are more_is name =
    are name ∙ sym (ap kept (ap (λ xs. source_of default_values xs name) more_is ∙ source_set default_values settings setting name))

-- the settings up to a place, and the one there
pub take_more : (settings : List Setting) (i : ℕ) (setting : Setting) → i < length settings → setting ≡ get_or settings i setting → take (i + 1) settings ≡ take i settings ++ (setting ∷ [])
take_more settings i setting within is =
    ap (λ n. take n settings) (one i) ∙ take-suc settings i setting within ∙ ap (λ s. take i settings ++ (s ∷ [])) (sym is)
  where
    one : (i : ℕ) → i + 1 ≡ suc i
    one i = omega arith
