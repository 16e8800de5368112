-- The texts of logical lines, from those of physical lines, without their numbers.
use Rattle.std.proofs.Common.{◌≡◌, ℕ, ◌+◌, if◌then◌else◌, List, [], ◌∷◌, ◌++◌, refl, ap, ◌∙◌}
use Rattle.std.specs.Prelude.{map}
use Rattle.std.specs.List.{fold}
use Rattle.pf_base.specs.Text.Lines.{lines, rest, without_return}
use Rattle.pf_base.specs.Text.Logical.{Physical, Grouped, alone, continued, grouped, is_ignored, numbered, starts_with_space, unless_ignored}
use Rattle.pf_base.specs.declared.text.logical.Logical.{Logical}
use Rattle.pf_maincf.proofs.Ends.{either_way}

-- the lines of a text, and what is after the last line feed
abbrev pub parts : List ℕ → List (List ℕ)
parts text = lines text ++ rest text ∷ []

-- the texts of the lines that continue nothing, and of the logical lines
pub record Texts : Type 0 where
  pub leading : List (List ℕ)
  pub logical : List (List ℕ)

abbrev pub with_text : List ℕ → Texts → Texts
with_text text t =
    if starts_with_space text then record { leading = text ∷ t.leading; logical = t.logical }
    else record { leading = []; logical = fold (λ prefix line. prefix ++ line) text t.leading ∷ t.logical }

abbrev pub unless_text_ignored : List ℕ → Texts → Texts
unless_text_ignored text t = if is_ignored text then t else with_text text t

abbrev pub joined : List (List ℕ) → Texts
joined [] = record { leading = []; logical = [] }
joined (line ∷ lines) = unless_text_ignored (without_return line) (joined lines)

abbrev pub texts_of : Grouped → Texts
texts_of g = record { leading = map (λ p. p.text) g.leading; logical = map (λ l. l.text) g.logical }

pub fold_text : (l : Logical) (ps : List Physical)
    → (fold continued l ps).text ≡ fold (λ (prefix line : List ℕ). prefix ++ line) l.text (map (λ p. p.text) ps)
fold_text l [] = refl
fold_text l (p ∷ ps) = fold_text (continued l p) ps

pub fold_line : (l : Logical) (ps : List Physical) → (fold continued l ps).line ≡ l.line
fold_line l [] = refl
fold_line l (p ∷ ps) = fold_line (continued l p) ps

texts_more : (p : Physical) (g : Grouped) → texts_of (unless_ignored p g) ≡ unless_text_ignored p.text (texts_of g)
texts_more p g =
    either_way (is_ignored p.text) (λ h. rw h) (λ h.
    either_way (starts_with_space p.text) (λ k. rw (h, k)) (λ k. rw (h, k)
    (ap (λ t. record { leading = []; logical = t ∷ map (λ l. l.text) g.logical }) (fold_text (alone p) g.leading))))

pub texts_joined : (n : ℕ) (ls : List (List ℕ)) → texts_of (grouped (numbered n ls)) ≡ joined ls
texts_joined n [] = refl
texts_joined n (l ∷ ls) =
    texts_more (record { number = n; text = without_return l }) (grouped (numbered (n + 1) ls)) ∙ ap (unless_text_ignored (without_return l)) (texts_joined (n + 1) ls)

-- lines after others: where they continue nothing, the logical lines are those of both
abbrev pub then_texts : Texts → Texts → Texts
then_texts t u = record { leading = t.leading; logical = t.logical ++ u.logical }

then_more : (text : List ℕ) (t u : Texts) → unless_text_ignored text (then_texts t u) ≡ then_texts (unless_text_ignored text t) u
then_more text t u =
    either_way (is_ignored text) (λ h. rw h) (λ h. either_way (starts_with_space text) (λ k. rw (h, k)) (λ k. rw (h, k)))

pub joined_append : (A B : List (List ℕ)) → (joined B).leading ≡ [] → joined (A ++ B) ≡ then_texts (joined A) (joined B)
joined_append [] B h = ap (λ l. record { leading = l; logical = (joined B).logical }) h
joined_append (a ∷ A) B h = ap (unless_text_ignored (without_return a)) (joined_append A B h) ∙ then_more (without_return a) (joined A) (joined B)
