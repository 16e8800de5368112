-- The law of the edit: the edited text is read, each name that is assigned has its value, and each other name the value that it had.
use Rattle.std.proofs.Common.{◌≡◌, ℕ, ◌+◌, true, List, [], ◌∷◌, ◌++◌, Some, None, Option, Result, Ok, Err, refl, sym, ap, subst, ◌∙◌, arith, eqb}
use Rattle.std.specs.Prelude.{map}
use Rattle.std.specs.List.{list_all}
use Rattle.std.specs.Option.{option_map}
use Rattle.pf_base.proofs.LineEnds.{parts_are}
use Rattle.pf_base.specs.Text.Lines.{without_return}
use Rattle.pf_base.specs.Text.Logical.{Grouped, Physical, alone, grouped, is_ignored, numbered, physical_lines, starts_with_space, unless_ignored}
use Rattle.pf_base.specs.declared.text.logical.Logical.{Logical}
use Rattle.pf_base.specs.declared.refused.Refused.{Refused}
use Rattle.pf_maincf.specs.Edit.{AreAssignments, IsEditOf, edited, edited_in, edited_lines, edited_text, is_writable, placed, assignment_at, value_of}
use Rattle.pf_maincf.specs.Settings.{Conf, conf_of, last_setting}
use Rattle.pf_maincf.specs.declared.setting.Setting.{Setting}
use Rattle.pf_maincf.proofs.EditedLines.{AllAssignments, AreWritten, after, lines_appended, lines_edited, logical_after, none_leading}
use Rattle.pf_maincf.proofs.Ends.{either_option, either_way}
use Rattle.pf_maincf.proofs.Entries.{IsRead, Says, is_read, plain, read_again, says_append, says_settings, settings_said}
use Rattle.pf_maincf.proofs.Joined.{Texts, fold_line, joined, parts, texts_joined, texts_of, then_texts}
use Rattle.pf_maincf.proofs.LastSettings.{Rises, last_changed, lines_of, missing, put, settings_after, value_of_each}
use Rattle.pf_maincf.proofs.AssignmentLines.{IsSet, and_left, and_right, is_writable_is, assignment_text, text_says}

-- the logical lines of a text are each after the one before it
rises_lower : (n : ℕ) (ms : List ℕ) → Rises (n + 1) ms → Rises n ms
rises_lower n [] h = tt
rises_lower n (m ∷ ms) h = let k = h.0 in (omega arith, h.1)

rises_more : (n : ℕ) (text : List ℕ) (g : Grouped) → Rises (n + 1) (map (λ l. l.line) g.logical)
    → Rises n (map (λ l. l.line) (unless_ignored (record { number = n; text = text }) g).logical)
rises_more n text g h =
    let p : Physical = record { number = n; text = text } in
    let lower = rises_lower n (map (λ (l : Logical). l.line) g.logical) h in
    either_way (is_ignored text) (λ k. rw k lower) (λ k. either_way (starts_with_space text) (λ s. rw (k, s) lower)
    (λ s. rw (k, s, fold_line (alone p) g.leading) (omega arith, h)))

rises_grouped : (n : ℕ) (ls : List (List ℕ)) → Rises n (map (λ l. l.line) (grouped (numbered n ls)).logical)
rises_grouped n [] = tt
rises_grouped n (line ∷ ls) = rises_more n (without_return line) (grouped (numbered (n + 1) ls)) (rises_grouped (n + 1) ls)

-- the assignments at their lines are assignments too
written : (settings assignments : List Setting) → list_all is_writable assignments ≡ true → AreWritten (map (placed settings) assignments)
written settings [] h line assignment at = cc
written settings (q ∷ assignments) h line assignment at =
    let first = is_writable_is (placed settings q) (and_left (is_writable q) (list_all is_writable assignments) h) in
    either_way (eqb (placed settings q).line line)
    (λ k. let here = rw k at at in let e : placed settings q ≡ assignment = cc in subst IsSet e first)
    (λ k. written settings assignments (and_right (is_writable q) (list_all is_writable assignments) h) line assignment (rw k at at))

all_missing : (settings assignments : List Setting) → list_all is_writable assignments ≡ true → AllAssignments (missing (map (placed settings) assignments))
all_missing settings [] h = tt
all_missing settings (q ∷ assignments) h =
    let first = is_writable_is (placed settings q) (and_left (is_writable q) (list_all is_writable assignments) h) in
    let more = all_missing settings assignments (and_right (is_writable q) (list_all is_writable assignments) h) in
    either_way (eqb (placed settings q).line 0) (λ k. rw k (first, more)) (λ k. rw k more)

-- what the lines of the edited text say
says_put : (assignments : List Setting) (ls : List Logical) (settings : List Setting) → AreWritten assignments
    → Says (map (λ l. l.text) ls) (map plain settings) → map (λ l. l.line) ls ≡ lines_of settings
    → Says (map (logical_after assignments) ls) (map (put assignments) settings)
says_put assignments [] [] w h e = tt
says_put assignments [] (s ∷ settings) w h e = absurd h
says_put assignments (l ∷ ls) [] w h e = absurd h
says_put assignments (l ∷ ls) (s ∷ settings) w h e =
    let line : l.line ≡ s.line = cc in
    let lines : map (λ (l : Logical). l.line) ls ≡ lines_of settings = cc in
    let more = says_put assignments ls settings w h.2 lines in
    rw line (either_option (assignment_at assignments s.line) (λ none. rw none (h.0, h.1, more))
    (λ assignment at. rw at (text_says assignment 0 0 (w s.line assignment at), (w s.line assignment at).name, more)))

says_missing : (assignments : List Setting) → AllAssignments assignments → Says (map assignment_text assignments) (map plain assignments)
says_missing [] h = tt
says_missing (assignment ∷ assignments) h = (text_says assignment 0 0 h.0, h.0.name, says_missing assignments h.1)

no_text : (ps : List Physical) → map (λ p. p.text) ps ≡ [] → ps ≡ []
no_text [] h = refl
no_text (p ∷ ps) h = cc

-- the edited text is read, and its settings are those that were there with the assignments in their places
pub record IsEdited (file text : List ℕ) (assignments old : List Setting) : Type 0 where
  pub new : List Setting
  pub read : conf_of file text ≡ Ok (record { file = file; settings = new })
  pub settings : map plain new ≡ settings_after assignments old

edited_is_read : (file text : List ℕ) (assignments : List Setting) (old : Conf) → list_all is_writable assignments ≡ true → IsRead file text old
    → IsEdited file (edited_text (map (placed old.settings) assignments) text) assignments old.settings
edited_is_read file text assignments old each r =
    let P : List Setting = map (placed old.settings) assignments in
    let T : List ℕ = edited_text P text in
    let g : Grouped = grouped (physical_lines text) in
    let w = written old.settings assignments each in
    let absent = all_missing old.settings assignments each in
    let said = says_settings file g.logical old.settings r.settings in
    let texts : joined (parts T) ≡ then_texts (after P None g) (record { leading = []; logical = map assignment_text (missing P) }) =
    lines_appended (missing P) (edited_lines P text) absent
    ∙ ap (λ (t : Texts). then_texts t (record { leading = []; logical = map assignment_text (missing P) })) (lines_edited P text w) in
    let all = ap (λ ps. texts_of (grouped (numbered 1 ps))) (parts_are T) ∙ texts_joined 1 (parts T) ∙ texts in
    let none : map (λ (p : Physical). p.text) (grouped (physical_lines T)).leading ≡ [] =
    ap (λ (t : Texts). t.leading) all ∙ rw r.leading (none_leading None) in
    let logical : map (λ (l : Logical). l.text) (grouped (physical_lines T)).logical ≡ map (logical_after P) g.logical ++ map assignment_text (missing P) =
    ap (λ (t : Texts). t.logical) all in
    let says = says_append (map (logical_after P) g.logical) (map assignment_text (missing P)) (map (put P) old.settings) (map plain (missing P))
    (says_put P g.logical old.settings w said.0 said.1) (says_missing (missing P) absent) in
    let new = settings_said file (grouped (physical_lines T)).logical (settings_after assignments old.settings)
    (subst (λ (ts : List (List ℕ)). Says ts (settings_after assignments old.settings)) (sym logical) says) in
    record {
      new = new.0;
      read = read_again file T (record { file = file; settings = new.0 }) (no_text (grouped (physical_lines T)).leading none) new.1 refl;
      settings = new.2;
    }

plain_value : (settings : List Setting) (name : List ℕ) → value_of (map plain settings) name ≡ value_of settings name
plain_value settings name = rw (last_changed plain settings name (λ s is. refl)) (value (last_setting settings name)) where
  value : (o : Option Setting) → option_map (λ s. s.value) (option_map plain o) ≡ option_map (λ s. s.value) o
  value None = refl
  value (Some s) = refl

law_of : (file text after : List ℕ) (assignments : List Setting) (R : Result Conf Refused) → AreAssignments assignments → conf_of file text ≡ R
    → edited_in assignments text R ≡ Ok after → IsEditOf file text after assignments
law_of file text after assignments (Err fault) a read h = cc
law_of file text after assignments (Ok old) a read h =
    let r = is_read file text old read in
    let is = edited_is_read file text assignments old a.each r in
    let e : edited_text (map (placed old.settings) assignments) text ≡ after = cc in
    let rises : Rises 1 (lines_of old.settings) =
    subst (Rises 1) (says_settings file (grouped (physical_lines text)).logical old.settings r.settings).1 (subst (λ ps. Rises 1 (map (λ (l : Logical). l.line) (grouped (numbered 1 ps)).logical)) (sym (parts_are text)) (rises_grouped 1 (parts text))) in
    record {
      old = old;
      new = record { file = file; settings = is.new };
      before = read;
      behind = subst (λ (t : List ℕ). conf_of file t ≡ Ok (record { file = file; settings = is.new })) e is.read;
      values = λ name. sym (plain_value is.new name) ∙
          (ap (λ (ss : List Setting). value_of ss name) is.settings ∙ value_of_each assignments old.settings name a.once rises);
    }

pub edit_assigns : (file text after : List ℕ) (assignments : List Setting) → AreAssignments assignments → edited file text assignments ≡ Ok after → IsEditOf file text after assignments
unfolding edited
edit_assigns file text after assignments a h = law_of file text after assignments (conf_of file text) a refl h
