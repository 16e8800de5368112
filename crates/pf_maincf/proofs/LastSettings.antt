-- The last settings of names, and the assignments that take their places.
use Rattle.std.proofs.Common.{◌≡◌, ℕ, ◌+◌, ◌≤◌, ◌⊎◌, inl, inr, Bool, true, false, cond, List, [], ◌∷◌, ◌++◌, Some, None, Option, reverse, refl, sym, ap, ◌∙◌, arith, eqb}
use Rattle.std.specs.Prelude.{map, filter, not}
use Rattle.std.specs.List.{find, list_any}
use Rattle.std.specs.Option.{option_map, option_or}
use Rattle.std.specs.Str.{bytes_eq}
use Rattle.std.proofs.lemmas.Bool.{eqb-true, eq-eqb, ne_eqb}
use Rattle.std.proofs.lemmas.List.{reverse-append}
use Rattle.std.proofs.lemmas.List.Folds.{find-append}
use Rattle.std.proofs.lemmas.Slice.Eq.{bytes_eq-Decides}
use Rattle.pf_maincf.specs.Edit.{differ, line_of, placed, assignment_at}
use Rattle.pf_maincf.specs.Settings.{last_setting}
use Rattle.pf_maincf.specs.declared.setting.Setting.{Setting}
use Rattle.pf_maincf.proofs.Ends.{either_option, either_way, or_left, or_right}
use Rattle.pf_maincf.proofs.Entries.{plain}
use Rattle.pf_maincf.proofs.AssignmentLines.{and_left, and_right, not_true}

abbrev pub is_named : List ℕ → Setting → Bool
is_named name s = bytes_eq s.name name

named : (name : List ℕ) (s : Setting) → is_named name s ≡ true → s.name ≡ name
named name s h = (bytes_eq-Decides s.name name).0 h

names_alike : (name : List ℕ) (s : Setting) → s.name ≡ name → is_named name s ≡ true
names_alike name s h = (bytes_eq-Decides s.name name).1 h

abbrev one : List ℕ → Setting → Option Setting
one name s = cond (is_named name s) (Some s) None

last_more : (s : Setting) (settings : List Setting) (name : List ℕ)
    → last_setting (s ∷ settings) name ≡ option_or (last_setting settings name) (one name s)
last_more s settings name = rw (reverse-append (s ∷ []) settings) (find-append (is_named name) (reverse settings) (s ∷ []))

or_or : (a b c : Option Setting) → option_or (option_or a b) c ≡ option_or a (option_or b c)
or_or None b c = refl
or_or (Some s) b c = refl

or_none : (a : Option Setting) → option_or a None ≡ a
or_none None = refl
or_none (Some s) = refl

pub last_append : (prefix back : List Setting) (name : List ℕ)
    → last_setting (prefix ++ back) name ≡ option_or (last_setting back name) (last_setting prefix name)
last_append [] back name = sym (or_none (last_setting back name))
last_append (s ∷ prefix) back name =
    last_more s (prefix ++ back) name
    ∙ (ap (λ o. option_or o (one name s)) (last_append prefix back name)
    ∙ (or_or (last_setting back name) (last_setting prefix name) (one name s) ∙ ap (option_or (last_setting back name)) (sym (last_more s prefix name))))

-- s is one of the settings
abbrev pub IsOne : Setting → List Setting → Type 0
IsOne s [] = ⊥
IsOne s (t ∷ settings) = (t ≡ s) ⊎ IsOne s settings

-- the settings are at lines from n on, each after the one before it
abbrev pub Rises : ℕ → List ℕ → Type 0
Rises n [] = Unit {0}
Rises n (m ∷ ms) = (n ≤ m) × Rises (m + 1) ms

abbrev pub lines_of : List Setting → List ℕ
lines_of settings = map (λ s. s.line) settings

not_before : (n : ℕ) (settings : List Setting) (s : Setting) → Rises n (lines_of settings) → IsOne s settings → n ≤ s.line
not_before n [] s h is = absurd is
not_before n (t ∷ settings) s h (inl e) = let k = h.0 in let l : t.line ≡ s.line = ap (λ (s : Setting). s.line) e in omega arith
not_before n (t ∷ settings) s h (inr is) = let k = h.0 in let l = not_before (t.line + 1) settings s h.1 is in omega arith

pub one_at_a_line : (n : ℕ) (settings : List Setting) (s t : Setting) → Rises n (lines_of settings) → IsOne s settings → IsOne t settings
    → s.line ≡ t.line → s ≡ t
one_at_a_line n [] s t h a b e = absurd a
one_at_a_line n (u ∷ settings) s t h (inl a) (inl b) e = sym a ∙ b
one_at_a_line n (u ∷ settings) s t h (inl a) (inr b) e =
    let l : u.line ≡ s.line = ap (λ (s : Setting). s.line) a in let k = not_before (u.line + 1) settings t h.1 b in absurd (omega arith)
one_at_a_line n (u ∷ settings) s t h (inr a) (inl b) e =
    let l : u.line ≡ t.line = ap (λ (s : Setting). s.line) b in let k = not_before (u.line + 1) settings s h.1 a in absurd (omega arith)
one_at_a_line n (u ∷ settings) s t h (inr a) (inr b) e = one_at_a_line (u.line + 1) settings s t h.1 a b e

-- the last setting of a name is one of the settings and has this name
pub last_is_one : (settings : List Setting) (name : List ℕ) (s : Setting) → last_setting settings name ≡ Some s → IsOne s settings × (s.name ≡ name)
last_is_one [] name s h = cc
last_is_one (t ∷ settings) name s h =
    let more = sym (last_more t settings name) ∙ h in
    either_option (last_setting settings name)
    (λ none. let here = rw none at more in either_way (is_named name t)
    (λ k. let there = rw k at here in let e : t ≡ s = cc in (
      inl e,
      sym (ap (λ (s : Setting). s.name) e) ∙ named name t k,
    ))
    (λ k. let there = rw k at here in cc))
    (λ u is. let here = rw is at more in let e : u ≡ s = cc in
    let behind = last_is_one settings name s (is ∙ ap (λ (s : Setting). Some s) e) in (inr behind.0, behind.1))

-- settings changed one by one, their names kept
abbrev pub KeepsNames : (Setting → Setting) → List Setting → Type 0
KeepsNames f settings = (s : Setting) → IsOne s settings → (f s).name ≡ s.name

map_or : (f : Setting → Setting) (a b : Option Setting) → option_map f (option_or a b) ≡ option_or (option_map f a) (option_map f b)
map_or f None b = refl
map_or f (Some s) b = refl

one_changed : (f : Setting → Setting) (s : Setting) (name : List ℕ) → (f s).name ≡ s.name → one name (f s) ≡ option_map f (one name s)
one_changed f s name h =
    let e : is_named name (f s) ≡ is_named name s = ap (λ n. bytes_eq n name) h in
    either_way (is_named name s) (λ k. rw (e ∙ k, k)) (λ k. rw (e ∙ k, k))

pub last_changed : (f : Setting → Setting) (settings : List Setting) (name : List ℕ) → KeepsNames f settings
    → last_setting (map f settings) name ≡ option_map f (last_setting settings name)
last_changed f [] name h = refl
last_changed f (s ∷ settings) name h =
    rw (last_more (f s) (map f settings) name, last_more s settings name, last_changed f settings name (λ t is. h t (inr is)), one_changed f s name (h s (inl refl)))
    (sym (map_or f (last_setting settings name) (one name s)))

-- a setting after an edit, without its line
abbrev pub put_by : Option Setting → Setting → Setting
put_by None s = plain s
put_by (Some assignment) s = plain assignment

abbrev pub put : List Setting → Setting → Setting
put assignments s = put_by (assignment_at assignments s.line) s

-- the assignments that have no line
abbrev pub missing : List Setting → List Setting
missing assignments = filter (λ assignment. eqb assignment.line 0) assignments

-- the last setting at a line has the name of that line
name_at : (settings : List Setting) (s : Setting) (name : List ℕ) (o : Option Setting) → Rises 1 (lines_of settings) → IsOne s settings
    → last_setting settings name ≡ o → line_of o ≡ s.line → s.name ≡ name
name_at settings s name None h is none e = let k = not_before 1 settings s h is in absurd (omega arith)
name_at settings s name (Some t) h is last e =
    let p = last_is_one settings name t last in
    sym (ap (λ (s : Setting). s.name) (one_at_a_line 1 settings t s h p.0 is e)) ∙ p.1

assignment_found : (settings assignments : List Setting) (line : ℕ) (p : Setting) → assignment_at (map (placed settings) assignments) line ≡ Some p
    → line_of (last_setting settings p.name) ≡ line
assignment_found settings [] line p h = cc
assignment_found settings (q ∷ assignments) line p h =
    either_way (eqb (line_of (last_setting settings q.name)) line)
    (λ k. let here = rw k at h in let e : placed settings q ≡ p = cc in
    ap (λ (s : Setting). line_of (last_setting settings s.name)) (sym e) ∙ eqb-true (line_of (last_setting settings q.name)) line k)
    (λ k. assignment_found settings assignments line p (rw k at h))

pub put_keeps : (settings assignments : List Setting) → Rises 1 (lines_of settings) → KeepsNames (put (map (placed settings) assignments)) settings
put_keeps settings assignments h s is =
    either_option (assignment_at (map (placed settings) assignments) s.line) (λ none. rw none) (λ p at. rw at
    (sym (name_at settings s p.name (last_setting settings p.name) h is refl (assignment_found settings assignments s.line p at))))

-- of the last setting of a name, the assignment of its line is that of this name
same_test : (settings : List Setting) (s : Setting) (name : List ℕ) (q : Setting) → Rises 1 (lines_of settings) → last_setting settings name ≡ Some s
    → eqb (line_of (last_setting settings q.name)) s.line ≡ is_named name q
same_test settings s name q h last =
    let p = last_is_one settings name s last in
    either_way (is_named name q)
    (λ k. rw (k, named name q k, last) (eq-eqb s.line s.line refl))
    (λ k. either_way (eqb (line_of (last_setting settings q.name)) s.line)
    (λ t. let e = name_at settings s q.name (last_setting settings q.name) h p.0 refl (eqb-true _ _ t) in
    let no : is_named name q ≡ true = names_alike name q (sym e ∙ p.1) in cc)
    (λ t. t ∙ sym k))

assignment_of_name : (settings : List Setting) (s : Setting) (name : List ℕ) (assignments : List Setting) → Rises 1 (lines_of settings)
    → last_setting settings name ≡ Some s → assignment_at (map (placed settings) assignments) s.line ≡ option_map (placed settings) (find (is_named name) assignments)
assignment_of_name settings s name [] h last = refl
assignment_of_name settings s name (q ∷ assignments) h last =
    let more = assignment_of_name settings s name assignments h last in
    let test = same_test settings s name q h last in
    either_way (is_named name q) (λ k. rw (test ∙ k, k)) (λ k. rw (test ∙ k, k) more)

-- the assignments without a line
absent : (settings : List Setting) (name : List ℕ) (assignments : List Setting) → list_any (is_named name) assignments ≡ false
    → last_setting (map plain (missing (map (placed settings) assignments))) name ≡ None
absent settings name [] h = refl
absent settings name (q ∷ assignments) h =
    let more = absent settings name assignments (or_right (is_named name q) (list_any (is_named name) assignments) h) in
    either_way (eqb (line_of (last_setting settings q.name)) 0)
    (λ k. rw (
      k,
      last_more (plain (placed settings q)) (map plain (missing (map (placed settings) assignments))) name,
      more,
      or_left (is_named name q) (list_any (is_named name) assignments) h,
    ))
    (λ k. rw k more)

others_absent : (q : Setting) (name : List ℕ) (assignments : List Setting) → q.name ≡ name → list_any (bytes_eq q.name) (map (λ assignment. assignment.name) assignments) ≡ false
    → list_any (is_named name) assignments ≡ false
others_absent q name [] e h = refl
others_absent q name (r ∷ assignments) e h =
    let more = others_absent q name assignments e (or_right (bytes_eq q.name r.name) (list_any (bytes_eq q.name) (map (λ (assignment : Setting). assignment.name) assignments)) h) in
    let first = or_left (bytes_eq q.name r.name) (list_any (bytes_eq q.name) (map (λ (assignment : Setting). assignment.name) assignments)) h in
    either_way (is_named name r)
    (λ k. let no : bytes_eq q.name r.name ≡ true = (bytes_eq-Decides q.name r.name).1 (e ∙ sym (named name r k)) in cc)
    (λ k. rw k more)

missing_assignment : (settings : List Setting) (name : List ℕ) (assignments : List Setting) → differ (map (λ assignment. assignment.name) assignments) ≡ true
    → last_setting settings name ≡ None
    → option_map (λ s. s.value) (last_setting (map plain (missing (map (placed settings) assignments))) name) ≡ option_map (λ s. s.value) (find (is_named name) assignments)
missing_assignment settings name [] d none = refl
missing_assignment settings name (q ∷ assignments) d none =
    let others = not_true _ (and_left (not (list_any (bytes_eq q.name) (map (λ (assignment : Setting). assignment.name) assignments))) (differ (map (λ (assignment : Setting). assignment.name) assignments)) d) in
    let more = missing_assignment settings name assignments
    (and_right (not (list_any (bytes_eq q.name) (map (λ (assignment : Setting). assignment.name) assignments))) (differ (map (λ (assignment : Setting). assignment.name) assignments)) d) none in
    let next = last_more (plain (placed settings q)) (map plain (missing (map (placed settings) assignments))) name in
    either_way (is_named name q)
    (λ k. let away = absent settings name assignments (others_absent q name assignments (named name q k) others) in
    let zero : eqb (line_of (last_setting settings q.name)) 0 ≡ true = rw (named name q k, none) in
    rw (zero, next, away, k))
    (λ k. either_way (eqb (line_of (last_setting settings q.name)) 0)
    (λ z. rw (z, next, k, or_none (last_setting (map plain (missing (map (placed settings) assignments))) name)) more)
    (λ z. rw (z, k) more))

present_assignment : (settings : List Setting) (name : List ℕ) (s : Setting) (assignments : List Setting) → Rises 1 (lines_of settings)
    → last_setting settings name ≡ Some s → last_setting (map plain (missing (map (placed settings) assignments))) name ≡ None
present_assignment settings name s [] h last = refl
present_assignment settings name s (q ∷ assignments) h last =
    let more = present_assignment settings name s assignments h last in
    let next = last_more (plain (placed settings q)) (map plain (missing (map (placed settings) assignments))) name in
    let p = last_is_one settings name s last in
    let from = not_before 1 settings s h p.0 in
    either_way (is_named name q)
    (λ k. let away : eqb (line_of (last_setting settings q.name)) 0 ≡ false = rw (named name q k, last) (ne_eqb s.line 0 (λ e. omega arith)) in rw away more)
    (λ k. either_way (eqb (line_of (last_setting settings q.name)) 0) (λ z. rw (z, next, more, k)) (λ z. rw z more))

or_none_value : (a : Option (List ℕ)) → option_or a None ≡ a
or_none_value None = refl
or_none_value (Some v) = refl

-- the settings of a text that was edited, without their lines
abbrev pub settings_after : List Setting → List Setting → List Setting
settings_after assignments settings = map (put (map (placed settings) assignments)) settings ++ map plain (missing (map (placed settings) assignments))

put_value : (o : Option Setting) (settings : List Setting) (s : Setting)
    → Some (put_by (option_map (placed settings) o) s).value ≡ option_or (option_map (λ s. s.value) o) (Some s.value)
put_value None settings s = refl
put_value (Some assignment) settings s = refl

pub value_of_each : (assignments settings : List Setting) (name : List ℕ) → differ (map (λ assignment. assignment.name) assignments) ≡ true → Rises 1 (lines_of settings)
    → option_map (λ s. s.value) (last_setting (settings_after assignments settings) name)
    ≡ option_or (option_map (λ s. s.value) (find (is_named name) assignments)) (option_map (λ s. s.value) (last_setting settings name))
value_of_each assignments settings name d h =
    let both = last_append (map (put (map (placed settings) assignments)) settings) (map plain (missing (map (placed settings) assignments))) name in
    let kept = last_changed (put (map (placed settings) assignments)) settings name (put_keeps settings assignments h) in
    either_option (last_setting settings name)
    (λ none. rw (
      both,
      kept,
      none,
      or_none (last_setting (map plain (missing (map (placed settings) assignments))) name),
      or_none_value (option_map (λ (s : Setting). s.value) (find (is_named name) assignments)),
    ) (missing_assignment settings name assignments d none))
    (λ s last. rw (
      both,
      kept,
      last,
      present_assignment settings name s assignments h last,
      assignment_of_name settings s name assignments h last,
    ) (put_value (find (is_named name) assignments) settings s))
