-- The logical lines of a text whose lines are edited.
use Rattle.std.proofs.Common.{◌≡◌, ℕ, arith, length, ◌+◌, true, false, List, [], ◌∷◌, ◌++◌, Some, None, Option, refl, sym, ap, ◌∙◌, append_assoc, append-nil}
use Rattle.std.specs.Prelude.{map}
use Rattle.std.specs.List.{fold}
use Rattle.pf_base.specs.Text.Lines.{lines, rest, without_return}
use Rattle.pf_base.specs.Text.Logical.{Physical, Grouped, alone, grouped, is_ignored, numbered, physical_lines, starts_with_space, unless_ignored}
use Rattle.pf_base.specs.declared.text.logical.Logical.{Logical}
use Rattle.pf_base.proofs.LineEnds.{lines-append, lines-cons, lines-nil, parts_are, rest-append, rest-cons, rest-nil}
use Rattle.std.proofs.lemmas.Bool.{eqb-true}
use Rattle.pf_maincf.specs.Edit.{Line, blocks_from, edited_lines, feed_behind, is_ended, assignment_at, assignment_line, with_line}
use Rattle.pf_maincf.specs.Clauses.Editing.{blocks_left, line_left, assignment_from}
use Rattle.pf_maincf.specs.declared.setting.Setting.{Setting}
use Rattle.pf_maincf.proofs.BlockLemmas.{left_more}
use Rattle.pf_maincf.proofs.Ends.{IsClean, clean_lines, clean_rest, either_option, either_way, has_feed, lines_at, lines_none, rest_at, rest_none}
use Rattle.pf_maincf.proofs.Joined.{Texts, fold_line, fold_text, joined, joined_append, parts, then_texts, unless_text_ignored}
use Rattle.pf_maincf.proofs.AssignmentLines.{IsSet, assignment_text, text_begins, text_feed, text_is_not_ignored, text_whole}

-- each assignment has a line that one can write
abbrev pub AreWritten : List Setting → Type 0
AreWritten assignments = (line : ℕ) (assignment : Setting) → assignment_at assignments line ≡ Some assignment → IsSet assignment

-- the lines that continue one that gave way are gone with it
abbrev pub leading_after : Option Setting → List (List ℕ) → List (List ℕ)
leading_after None leading = leading
leading_after (Some assignment) leading = []

abbrev pub text_after : Option Setting → List ℕ → List ℕ
text_after None text = text
text_after (Some assignment) text = assignment_text assignment

abbrev pub logical_after : List Setting → Logical → List ℕ
logical_after assignments l = text_after (assignment_at assignments l.line) l.text

-- the lines from one on, after lines the last of which is in the logical line of this assignment
abbrev pub after : List Setting → Option Setting → Grouped → Texts
after assignments assignment g = record { leading = leading_after assignment (map (λ p. p.text) g.leading); logical = map (logical_after assignments) g.logical }

parts_at : (line X : List ℕ) → has_feed line ≡ false → parts ((line ++ 10 ∷ []) ++ X) ≡ line ∷ parts X
parts_at line X h = rw (append_assoc line (10 ∷ []) X, lines_at line X h, rest_at line X h)

parts_alone : (line : List ℕ) → has_feed line ≡ false → parts line ≡ line ∷ []
parts_alone line h = rw (lines_none line h, rest_none line h)

parts_nil : parts [] ≡ [] ∷ []
parts_nil = rw (lines-nil, rest-nil)

-- the line of an assignment before others begins a logical line of its own
assignment_before : (assignment : Setting) (X : List ℕ) → IsSet assignment
    → joined (parts (assignment_line assignment ++ X))
    ≡ record { leading = []; logical = fold (λ prefix line. prefix ++ line) (assignment_text assignment) (joined (parts X)).leading ∷ (joined (parts X)).logical }
assignment_before assignment X s =
    rw (parts_at (assignment_text assignment) X (text_feed assignment s), text_whole assignment s, text_is_not_ignored assignment s, text_begins assignment s)

pub none_leading : (o : Option Setting) → leading_after o [] ≡ []
none_leading None = refl
none_leading (Some assignment) = refl

-- one line more, where what stays of it is read as it was
abbrev Stays : List ℕ → List ℕ → List ℕ → Type 0
Stays line feed X = joined (parts ((line ++ feed) ++ X)) ≡ unless_text_ignored (without_return line) (joined (parts X))

one_more : (assignments : List Setting) (assignment : Option Setting) (number : ℕ) (line : Line) (X : List ℕ) (g : Grouped) → AreWritten assignments → Stays line.text line.feed X
    → joined (parts X) ≡ after assignments (assignment_from assignments assignment number line.text) g
    → joined (parts (line_left (assignment_from assignments assignment number line.text) line ++ X))
    ≡ after assignments assignment (unless_ignored (record { number = number; text = without_return line.text }) g)
one_more assignments assignment number line X g written stays behind =
    let text = without_return line.text in
    let p : Physical = record { number = number; text = text } in
    either_way (is_ignored text) (λ h. let here = rw h at behind in
    either_option assignment (λ none. rw (h, none) (stays ∙ rw h (rw none at here))) (λ s is. rw (h, is) (stays ∙ rw h (rw is at here)))) (λ h.
    either_way (starts_with_space text) (λ k.
    let here = rw (h, k) at behind in
    either_option assignment
    (λ none. rw (h, k, none) (stays ∙ rw (h, k)
    (ap (λ (T : Texts). let U : Texts = record { leading = text ∷ T.leading; logical = T.logical } in U) (rw none at here))))
    (λ s is. rw (h, k, is) (rw is at here))) (λ k.
    let here = rw (h, k) at behind in
    let onto = λ (prefix : List ℕ) (T : Texts). let U : Texts = record { leading = []; logical = fold (λ prefix line. prefix ++ line) prefix T.leading ∷ T.logical } in U in
    either_option (assignment_at assignments number)
    (λ none. rw (h, k, fold_line (alone p) g.leading, fold_text (alone p) g.leading, none_leading assignment, none)
    (stays ∙ rw (h, k) (ap (onto text) (rw none at here))))
    (λ s is. rw (h, k, fold_line (alone p) g.leading, none_leading assignment, is)
    (assignment_before s X (written number s is) ∙ ap (onto (assignment_text s)) (rw is at here)))))

stays_alone : (line : List ℕ) → has_feed line ≡ false → Stays line [] []
stays_alone line h = rw (append-nil (line ++ []), append-nil line, parts_alone line h, parts_nil)

stays_before : (line X : List ℕ) → has_feed line ≡ false → Stays line (10 ∷ []) X
stays_before line X h = rw (parts_at line X h)

-- the lines with their line feeds, and the last one
abbrev lines_with : List (List ℕ) → List ℕ → List Line
lines_with ls last = map (λ line. record { text = line; feed = 10 ∷ [] }) ls ++ record { text = last; feed = [] } ∷ []

edited_from : (assignments : List Setting) → AreWritten assignments → (assignment : Option Setting) (number : ℕ) (ls : List (List ℕ)) (last : List ℕ) → IsClean ls → has_feed last ≡ false
    → joined (parts (blocks_left assignments assignment (blocks_from number (lines_with ls last)))) ≡ after assignments assignment (grouped (numbered number (ls ++ last ∷ [])))
edited_from assignments written assignment number [] last clean feed =
    let line : Line = record { text = last; feed = [] } in
    rw (left_more assignments assignment number line (record { prefix = []; blocks = [] }))
    (one_more assignments assignment number line [] (record { leading = []; logical = [] }) written (stays_alone last feed)
    (ap joined parts_nil ∙ sym (ap (λ (l : List (List ℕ)). let T : Texts = record { leading = l; logical = [] } in T) (none_leading (assignment_from assignments assignment number last)))))
edited_from assignments written assignment number (first ∷ ls) last clean feed =
    let line : Line = record { text = first; feed = 10 ∷ [] } in
    let behind = blocks_from (number + 1) (lines_with ls last) in
    let here = assignment_from assignments assignment number first in
    rw (left_more assignments assignment number line behind)
    (one_more assignments assignment number line (blocks_left assignments here behind) (grouped (numbered (number + 1) (ls ++ last ∷ []))) written
    (stays_before first (blocks_left assignments here behind) clean.0) (edited_from assignments written here (number + 1) ls last clean.1 feed))

-- each logical line of an edited text is the one that was there, or the line of the assignment at it
pub lines_edited : (assignments : List Setting) (text : List ℕ) → AreWritten assignments → joined (parts (edited_lines assignments text)) ≡ after assignments None (grouped (physical_lines text))
lines_edited assignments text written =
    edited_from assignments written None 1 (lines text) (rest text) (clean_lines text) (clean_rest text)
    ∙ ap (λ ps. after assignments None (grouped (numbered 1 ps))) (sym (parts_are text))

-- assignments that lines can say
abbrev pub AllAssignments : List Setting → Type 0
AllAssignments [] = Unit {0}
AllAssignments (assignment ∷ assignments) = IsSet assignment × AllAssignments assignments

no_item : (xs : List ℕ) → is_ended xs ≡ true → rest xs ≡ []
no_item [] h = rest-nil
no_item (x ∷ xs) h = none (rest (x ∷ xs)) (eqb-true (length (rest (x ∷ xs))) 0 h) where
  none : (r : List ℕ) → length r ≡ 0 → r ≡ []
  none [] h = refl
  none (b ∷ r) h = absurd (omega arith)

-- a text that ends in a line feed: all its lines are whole
pub record IsEnded (text : List ℕ) (before : List ℕ) : Type 0 where
  pub none : rest text ≡ []
  pub same : joined (lines text) ≡ joined (parts before)

feed_lines : lines (10 ∷ []) ≡ [] ∷ []
feed_lines = lines-cons 10 [] ∙ ap (λ L. [] ∷ L) lines-nil

feed_rest : rest (10 ∷ []) ≡ []
feed_rest = rest-cons 10 [] ∙ rest-nil

ended : (X : List ℕ) → IsEnded (X ++ feed_behind X) X
ended X =
    either_way (is_ended X)
    (λ h. rw (h, append-nil X) (record {
      none = no_item X h;
      same = rw (no_item X h, joined_append (lines X) ([] ∷ []) refl, append-nil (joined (lines X)).logical);
    }))
    (λ h. rw h (record {
      none = rw (rest-append X (10 ∷ []), feed_lines, feed_rest);
      same = rw (lines-append X (10 ∷ []), feed_lines, append-nil (rest X));
    }))

alone_joined : (assignment : Setting) → IsSet assignment → joined (assignment_text assignment ∷ [] ∷ []) ≡ record { leading = []; logical = assignment_text assignment ∷ [] }
alone_joined assignment s = rw (text_whole assignment s, text_is_not_ignored assignment s, text_begins assignment s)

behind_ended : (Y X : List ℕ) (assignment : Setting) → IsEnded Y X → IsSet assignment
    → joined (parts (Y ++ assignment_line assignment)) ≡ then_texts (joined (parts X)) (record { leading = []; logical = assignment_text assignment ∷ [] })
behind_ended Y X assignment e s =
    let cut : lines (assignment_line assignment) ≡ assignment_text assignment ∷ [] = lines_at (assignment_text assignment) [] (text_feed assignment s) ∙ ap (λ L. assignment_text assignment ∷ L) lines-nil in
    let none : rest (assignment_line assignment) ≡ [] = rest_at (assignment_text assignment) [] (text_feed assignment s) ∙ rest-nil in
    let alone = alone_joined assignment s in
    rw (
      lines-append Y (assignment_line assignment),
      rest-append Y (assignment_line assignment),
      cut,
      none,
      e.none,
      append_assoc (lines Y) (assignment_text assignment ∷ []) ([] ∷ []),
      joined_append (lines Y) (assignment_text assignment ∷ [] ∷ []) (ap (λ (T : Texts). T.leading) alone),
      alone,
      e.same,
    )

pub lines_appended : (assignments : List Setting) (X : List ℕ) → AllAssignments assignments
    → joined (parts (fold with_line X assignments)) ≡ then_texts (joined (parts X)) (record { leading = []; logical = map assignment_text assignments })
lines_appended [] X all = rw (append-nil (joined (parts X)).logical)
lines_appended (assignment ∷ assignments) X all =
    lines_appended assignments (with_line X assignment) all.1
    ∙ rw (behind_ended (X ++ feed_behind X) X assignment (ended X) all.0, append_assoc (joined (parts X)).logical (assignment_text assignment ∷ []) (map assignment_text assignments))
