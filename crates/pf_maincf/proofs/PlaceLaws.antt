-- The places of the last settings of names, and one setting more.
use Rattle.std.proofs.Common.{◌≡◌, ℕ, ◌+◌, ◌<◌, zero, suc, ◌++◌, Bool, true, false, cond, List, [], ◌∷◌, Option, None, Some, get_or, length, take, refl, sym, ap, subst, ◌∙◌, arith, if◌then◌else◌}
use Rattle.std.proofs.lemmas.List.{take_more}
use Rattle.std.proofs.lemmas.Map.Text.{is_eq-slice_cmp}
use Rattle.std.proofs.lemmas.Slice.Eq.{bytes_eq-Decides}
use Rattle.std.specs.Cmp.{eq_by_cmp_equiv}
use Rattle.std.specs.Cmp.Lexicographic.{nat_list_cmp_total, slice_cmp}
use Rattle.std.specs.List.{slice_get}
use Rattle.std.specs.Map.{KeepsOthers, lookup}
use Rattle.std.specs.Option.{option_and_then, option_map, option_or}
use Rattle.std.specs.Ordering.{eq_by_cmp, is_eq, nat_cmp}
use Rattle.std.specs.Str.{bytes_eq}
use Rattle.pf_maincf.proofs.LastSettings.{last_append}
use Rattle.pf_maincf.specs.Clauses.Places.{AreLast, Puts}
use Rattle.pf_maincf.specs.Settings.{last_setting}
use Rattle.pf_maincf.specs.declared.setting.Setting.{Setting}

module _ {K : Type 0} (text : K → List ℕ) where
  -- a key has this text
  abbrev pub has_text : List ℕ → K → Bool
  has_text asked key = is_eq (slice_cmp nat_cmp asked (text key))

  apart : (set asked : List ℕ) (key : K) → bytes_eq set asked ≡ false → has_text set key ≡ true → has_text asked key ≡ false
  apart set asked key differ same = by_test (bytes_eq asked (text key)) refl where
    by_test : (t : Bool) → bytes_eq asked (text key) ≡ t → has_text asked key ≡ false
    by_test false e = is_eq-slice_cmp asked (text key) ∙ e
    by_test true e =
        let set_is = (bytes_eq-Decides set (text key)).0 (sym (is_eq-slice_cmp set (text key)) ∙ same) in
        let both : bytes_eq set asked ≡ true = (bytes_eq-Decides set asked).1 (set_is ∙ sym ((bytes_eq-Decides asked (text key)).0 e)) in cc

  module _ {X : Type 0} (old new : List (K × X)) (set : List ℕ)
      (keeps : KeepsOthers (eq_by_cmp (λ x y. slice_cmp nat_cmp (text x) (text y))) (has_text set) old new) where
    others : (asked : List ℕ) → bytes_eq set asked ≡ false → lookup (has_text asked) new ≡ lookup (has_text asked) old
    unfolding KeepsOthers
    others asked differ = keeps (has_text asked) (λ x y. (eq_by_cmp_equiv nat_list_cmp_total).congr asked (text x) (text y)) (λ key. apart set asked key differ)

    -- what is found in a map by texts after one of them was set
    pub set_text : (w : X) → lookup (has_text set) new ≡ Some w → (asked : List ℕ)
        → lookup (has_text asked) new ≡ (if bytes_eq set asked then Some w else lookup (has_text asked) old)
    set_text w here asked = by_test (bytes_eq set asked) refl where
      by_test : (t : Bool) → bytes_eq set asked ≡ t → lookup (has_text asked) new ≡ (if t then Some w else lookup (has_text asked) old)
      by_test true same = subst (λ s. lookup (has_text s) new ≡ Some w) ((bytes_eq-Decides set asked).0 same) here
      by_test false differ = others asked differ

prefix_stays : (xs ys : List Setting) (k : ℕ) (s : Setting) → slice_get xs k ≡ Some s → slice_get (xs ++ ys) k ≡ Some s
prefix_stays [] ys k s is = cc
prefix_stays (x ∷ xs) ys zero s is = is
prefix_stays (x ∷ xs) ys (suc k) s is = prefix_stays xs ys k s is

end_there : (xs : List Setting) (s : Setting) → slice_get (xs ++ s ∷ []) (length xs) ≡ Some s
end_there [] s = refl
end_there (x ∷ xs) s = end_there xs s

-- the last setting of a name is at this place
abbrev pub IsAt : List Setting → Option ℕ → Option Setting → Type 0
IsAt settings place last = option_map (slice_get settings) place ≡ option_map Some last

stays : (xs : List Setting) (s : Setting) (place : Option ℕ) (last : Option Setting) → IsAt xs place last → IsAt (xs ++ s ∷ []) place last
stays xs s None last is = is
stays xs s (Some k) None is = cc
stays xs s (Some k) (Some t) is = let there : slice_get xs k ≡ Some t = cc in ap Some (prefix_stays xs (s ∷ []) k t there)

one_more : (xs : List Setting) (s : Setting) (place : Option ℕ) (name : List ℕ) → IsAt xs place (last_setting xs name)
    → IsAt (xs ++ s ∷ []) (if bytes_eq s.name name then Some (length xs) else place) (last_setting (xs ++ s ∷ []) name)
one_more xs s place name is = by_test (bytes_eq s.name name) ∙ ap (option_map Some) (sym (last_append xs (s ∷ []) name)) where
  by_test : (t : Bool)
      → IsAt (xs ++ s ∷ []) (if t then Some (length xs) else place) (option_or (cond t (Some s) None) (last_setting xs name))
  by_test true = ap Some (end_there xs s)
  by_test false = stays xs s place (last_setting xs name) is

length_prefix : (xs : List Setting) (i : ℕ) → i < length xs → length (take i xs) ≡ i
length_prefix [] i h = absurd (omega arith)
length_prefix (x ∷ xs) zero h = refl
length_prefix (x ∷ xs) (suc i) h = ap suc (length_prefix xs i (omega arith))

-- the places of one setting more
pub put_more : (old new : List ℕ → Option ℕ) (settings : List Setting) (i : ℕ) (s : Setting) → i < length settings → s ≡ get_or settings i s
    → AreLast old (take i settings) → Puts old new s.name i → AreLast new (take (i + 1) settings)
put_more old new settings i s within at last puts name =
    let all = take_more settings i s within ∙ ap (λ x. take i settings ++ x ∷ []) (sym at) in
    let place = puts name ∙ ap (λ n. if bytes_eq s.name name then Some n else old name) (sym (length_prefix settings i within)) in
    subst (λ xs. IsAt xs (new name) (last_setting xs name)) (sym all)
    (ap (option_map (slice_get (take i settings ++ s ∷ []))) place ∙ one_more (take i settings) s (old name) name (last name))

-- what is at the place of a name
pub found : (settings : List Setting) (place : Option ℕ) (last : Option Setting) → IsAt settings place last → option_and_then (slice_get settings) place ≡ last
found settings None None is = refl
found settings None (Some s) is = cc
found settings (Some k) None is = cc
found settings (Some k) (Some s) is = let there : slice_get settings k ≡ Some s = cc in there
