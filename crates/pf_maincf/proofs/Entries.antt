-- Settings without the numbers of their lines, from the texts of logical lines.
use Rattle.std.proofs.Common.{◌≡◌, ℕ, ◌+◌, true, List, [], ◌∷◌, ◌++◌, Some, None, Option, Result, Ok, Err, refl, sym, ap, subst, ◌∙◌, eqb}
use Rattle.std.specs.Prelude.{map, take, drop}
use Rattle.std.specs.List.{position}
use Rattle.std.specs.Option.{option_map}
use Rattle.pf_base.specs.Text.Logical.{Grouped, Physical, grouped, physical_lines}
use Rattle.pf_base.specs.Results.{◌>>=◌}
use Rattle.pf_base.specs.Text.Space.{trimmed}
use Rattle.pf_base.specs.declared.text.logical.Logical.{Logical}
use Rattle.pf_base.specs.declared.refused.Refused.{Refused}
use Rattle.pf_maincf.specs.Settings.{Conf, conf_of, conf_with, is_name, or_refused, setting_of, settings_in, settings_of, unless_continued}
use Rattle.pf_maincf.specs.declared.setting.Setting.{Setting}
use Rattle.pf_maincf.proofs.Ends.{either_way}

abbrev pub plain : Setting → Setting
plain s = record { line = 0; name = s.name; value = s.value }

abbrev pub bare : List ℕ → Logical
bare text = record { line = 0; last = 0; text = text }

-- the texts say these settings
abbrev pub Says : List (List ℕ) → List Setting → Type 0
Says [] [] = Unit {0}
Says [] (s ∷ settings) = ⊥
Says (text ∷ texts) [] = ⊥
Says (text ∷ texts) (s ∷ settings) = (setting_of (bare text) ≡ Some s) × (is_name s.name ≡ true) × Says texts settings

abbrev found : ℕ → List ℕ → ℕ → Setting
found line text i = record { line = line; name = trimmed (take i text); value = trimmed (drop (i + 1) text) }

line_is_free : (line : ℕ) (text : List ℕ) (o : Option ℕ) (s : Setting) → option_map (found line text) o ≡ Some s
    → (option_map (found 0 text) o ≡ Some (plain s)) × (line ≡ s.line)
line_is_free line text None s h = cc
line_is_free line text (Some i) s h =
    let e : found line text i ≡ s = cc in
    (ap (λ (s : Setting). Some (plain s)) e, ap (λ (s : Setting). s.line) e)

line_comes_back : (line : ℕ) (text : List ℕ) (o : Option ℕ) (s : Setting) → option_map (found 0 text) o ≡ Some s
    → (t : Setting) × (option_map (found line text) o ≡ Some t) × (plain t ≡ s)
line_comes_back line text None s h = cc
line_comes_back line text (Some i) s h =
    let e : found 0 text i ≡ s = cc in
    (found line text i, refl, e)

-- what the settings of one line and of those after it are
record IsNext (file : List ℕ) (l : Logical) (ls : List Logical) (settings : List Setting) : Type 0 where
  first : Setting
  behind : List Setting
  says : setting_of l ≡ Some first
  name : is_name first.name ≡ true
  rest : settings_of file ls ≡ Ok behind
  is : first ∷ behind ≡ settings

next_is : (file : List ℕ) (l : Logical) (ls : List Logical) (settings : List Setting) (o : Option Setting) (R : Result (List Setting) Refused)
    → setting_of l ≡ o → settings_of file ls ≡ R → (or_refused file l o >>= (λ first. R >>= (λ behind. Ok (first ∷ behind)))) ≡ Ok settings → IsNext file l ls settings
next_is file l ls settings None R a b h = cc
next_is file l ls settings (Some s) (Err fault) a b h = either_way (is_name s.name) (λ k. let no = rw k at h in cc) (λ k. let no = rw k at h in cc)
next_is file l ls settings (Some s) (Ok behind) a b h =
    either_way (is_name s.name)
    (λ k. let is = rw k at h in record { first = s; behind = behind; says = a; name = k; rest = b; is = cc })
    (λ k. let no = rw k at h in cc)

pub says_settings : (file : List ℕ) (ls : List Logical) (settings : List Setting) → settings_of file ls ≡ Ok settings
    → Says (map (λ l. l.text) ls) (map plain settings) × (map (λ l. l.line) ls ≡ map (λ s. s.line) settings)
says_settings file [] [] h = (tt, refl)
says_settings file [] (s ∷ settings) h = cc
says_settings file (l ∷ ls) settings h =
    let n = next_is file l ls settings (setting_of l) (settings_of file ls) refl refl h in
    let free = line_is_free l.line l.text (position (λ b. eqb b 61) l.text) n.first n.says in
    let more = says_settings file ls n.behind n.rest in
    subst (λ (ss : List Setting). Says (map (λ (l : Logical). l.text) (l ∷ ls)) (map plain ss)
    × (map (λ (l : Logical). l.line) (l ∷ ls) ≡ map (λ (s : Setting). s.line) ss)) n.is
    ((free.0, n.name, more.0), ap (λ (m : ℕ). m ∷ map (λ (l : Logical). l.line) ls) free.1 ∙ ap (λ (ms : List ℕ). n.first.line ∷ ms) more.1)

pub settings_said : (file : List ℕ) (ls : List Logical) (settings : List Setting) → Says (map (λ l. l.text) ls) settings
    → (new : List Setting) × (settings_of file ls ≡ Ok new) × (map plain new ≡ settings)
settings_said file [] [] h = ([], refl, refl)
settings_said file [] (s ∷ settings) h = absurd h
settings_said file (l ∷ ls) [] h = absurd h
settings_said file (l ∷ ls) (s ∷ settings) h =
    let back = line_comes_back l.line l.text (position (λ b. eqb b 61) l.text) s h.0 in
    let more = settings_said file ls settings h.2 in
    let name : is_name back.0.name ≡ true = ap (λ (t : Setting). is_name t.name) back.2 ∙ h.1 in
    (back.0 ∷ more.0, rw (back.1, more.1, name), ap (λ (t : Setting). t ∷ map plain more.0) back.2 ∙ ap (λ (ts : List Setting). s ∷ ts) more.2)

pub says_append : (ts us : List (List ℕ)) (xs ys : List Setting) → Says ts xs → Says us ys → Says (ts ++ us) (xs ++ ys)
says_append [] us [] ys h k = k
says_append [] us (x ∷ xs) ys h k = absurd h
says_append (t ∷ ts) us [] ys h k = absurd h
says_append (t ∷ ts) us (x ∷ xs) ys h k = (h.0, h.1, says_append ts us xs ys h.2 k)

-- the settings of a text that was read
pub record IsRead (file text : List ℕ) (conf : Conf) : Type 0 where
  pub leading : (grouped (physical_lines text)).leading ≡ []
  pub settings : settings_of file (grouped (physical_lines text)).logical ≡ Ok conf.settings

read_by : (file text : List ℕ) (conf : Conf) (g : Grouped) → grouped (physical_lines text) ≡ g
    → conf_with file (settings_in file g) ≡ Ok conf → (g.leading ≡ []) × (settings_of file g.logical ≡ Ok conf.settings)
read_by file text conf g is h = by g.leading refl h where
  by : (leading : List Physical) → g.leading ≡ leading → conf_with file (unless_continued file leading (settings_of file g.logical)) ≡ Ok conf
      → (leading ≡ []) × (settings_of file g.logical ≡ Ok conf.settings)
  by (line ∷ lines) e h = cc
  by [] e h = (refl, with (settings_of file g.logical) h) where
    with : (R : Result (List Setting) Refused) → conf_with file R ≡ Ok conf → R ≡ Ok conf.settings
    with (Err fault) h = cc
    with (Ok settings) h = let e : record { file = file; settings = settings } ≡ conf = cc in ap (λ (c : Conf). Ok c.settings) e

pub is_read : (file text : List ℕ) (conf : Conf) → conf_of file text ≡ Ok conf → IsRead file text conf
unfolding conf_of
is_read file text conf h =
    let parts = read_by file text conf (grouped (physical_lines text)) refl h in
    record { leading = parts.0; settings = parts.1 }

pub read_again : (file text : List ℕ) (conf : Conf) → (grouped (physical_lines text)).leading ≡ []
    → settings_of file (grouped (physical_lines text)).logical ≡ Ok conf.settings → conf.file ≡ file → conf_of file text ≡ Ok conf
unfolding conf_of
read_again file text conf leading settings name = rw (leading, settings, sym name)
