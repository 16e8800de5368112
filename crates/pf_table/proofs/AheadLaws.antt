-- What is ahead in a text: the next physical line that counts, and the logical lines.
use Rattle.std.proofs.Common.{◌≡◌, ◌+◌, ◌<◌, ◌++◌, ℕ, Bool, true, false, List, [], ◌∷◌, Option, None, Some, is_some, Result, Ok, length, map, drop, refl, sym, ap, ◌∙◌, if◌then◌else◌, append_assoc, append-nil, arith}
use Rattle.std.proofs.lemmas.List.{length-map}
use Rattle.std.specs.List.{flat_map, fold}
use Rattle.std.specs.Option.{option_map}
use Rattle.std.specs.Prelude.{slice_get}
use Rattle.pf_base.proofs.LineEnds.{parts_are}
use Rattle.pf_base.specs.Results.{◌>>=◌}
use Rattle.pf_base.specs.Text.Lines.{lines, parts, rest, without_return}
use Rattle.pf_base.specs.Text.Logical.{Grouped, Physical, alone, continued, grouped, is_ignored, numbered, starts_with_space, unless_ignored, with_line}
use Rattle.pf_base.specs.declared.text.logical.Logical.{Logical}
use Rattle.pf_base.specs.declared.refused.Refused.{Refused}
use Rattle.pf_table.specs.Clauses.Lines.{Continues, first_entry, no_lines}
use Rattle.pf_table.specs.Line.{pair_of}
use Rattle.pf_table.specs.Text.{Entry, or_refused}

-- a line before the others
parts_more : (text line behind : List ℕ) → lines text ≡ line ∷ lines behind → rest text ≡ rest behind → parts text ≡ line ∷ parts behind
parts_more text line behind first last = parts_are text ∙ ap (λ l. l ++ (rest text ∷ [])) first ∙ ap (λ r. line ∷ (lines behind ++ (r ∷ []))) last ∙ ap (λ p. line ∷ p) (sym (parts_are behind))

grouped_more : (n : ℕ) (text line cut behind : List ℕ) → lines text ≡ line ∷ lines behind → rest text ≡ rest behind → cut ≡ without_return line
    → grouped (numbered n (parts text)) ≡ unless_ignored (record { number = n; text = cut }) (grouped (numbered (n + 1) (parts behind)))
grouped_more n text line cut behind first last is = rw (parts_more text line behind first last, is) refl

pub ignored_first : (n : ℕ) (text line cut behind : List ℕ) → lines text ≡ line ∷ lines behind → rest text ≡ rest behind → cut ≡ without_return line
    → true ≡ is_ignored cut → grouped (numbered n (parts text)) ≡ grouped (numbered (n + 1) (parts behind))
ignored_first n text line cut behind first last is ignored = grouped_more n text line cut behind first last is ∙ rw (← ignored) refl

pub counting_first : (n : ℕ) (text line cut behind : List ℕ) → lines text ≡ line ∷ lines behind → rest text ≡ rest behind → cut ≡ without_return line
    → false ≡ is_ignored cut → grouped (numbered n (parts text)) ≡ with_line (record { number = n; text = cut }) (grouped (numbered (n + 1) (parts behind)))
counting_first n text line cut behind first last is ignored = grouped_more n text line cut behind first last is ∙ rw (← ignored) refl

-- the last line
pub grouped_last : (n : ℕ) (text : List ℕ) → lines text ≡ [] → rest text ≡ text
    → grouped (numbered n (parts text)) ≡ unless_ignored (record { number = n; text = without_return text }) no_lines
grouped_last n text none all = ap (λ p. grouped (numbered n p)) (parts_are text ∙ ap (λ l. l ++ (rest text ∷ [])) none ∙ ap (λ r. r ∷ []) all)

-- the number of the first line that continues what is before it
abbrev pub first_number : List Physical → Option ℕ
first_number leading = option_map (λ line. line.number) (slice_get leading 0)

pub none_leading : (leading : List Physical) → first_number leading ≡ None → leading ≡ []
none_leading [] is = refl
none_leading (line ∷ leading) is = cc

pub nothing_leading : (leading : List Physical) (number : Option ℕ) → number ≡ first_number leading → is_some number ≡ false → leading ≡ []
nothing_leading leading None is none = none_leading leading (sym is)
nothing_leading leading (Some n) is none = cc

-- a line that starts with space, or not, before others
abbrev line_by : Bool → Physical → Grouped → Grouped
line_by space line g =
    if space then record { leading = line ∷ g.leading; logical = g.logical }
    else record { leading = []; logical = fold continued (alone line) g.leading ∷ g.logical }

-- a line that is taken continues what is before it
pub continues : (old : Grouped) (line : Physical) (new : Grouped) (n : ℕ) → first_number old.leading ≡ Some n → old ≡ with_line line new
    → Continues old line.text new
continues old line new n first is = by (starts_with_space line.text) is
  where
    by : (space : Bool) → old ≡ line_by space line new → Continues old line.text new
    by true is = rw is (record { first = refl; logical = refl })
    by false is = let none : None ≡ Some n = ap (λ (g : Grouped). first_number g.leading) (sym is) ∙ first in cc

-- or it begins a logical line
pub begins : (old : Grouped) (line : Physical) (new : Grouped) → old.leading ≡ [] → old ≡ with_line line new
    → old.logical ≡ fold continued (alone line) new.leading ∷ new.logical
begins old line new none is = by (starts_with_space line.text) is
  where
    by : (space : Bool) → old ≡ line_by space line new → old.logical ≡ fold continued (alone line) new.leading ∷ new.logical
    by true is = let some : line ∷ new.leading ≡ [] = ap (λ (g : Grouped). g.leading) (sym is) ∙ none in cc
    by false is = ap (λ (g : Grouped). g.logical) is

-- the texts of lines, one after another
abbrev pub joined : List Physical → List ℕ
joined leading = flat_map (λ line. line.text) leading

joined_texts : (leading : List Physical) → joined leading ≡ flat_map (λ text. text) (map (λ line. line.text) leading)
joined_texts [] = refl
joined_texts (line ∷ leading) = ap (λ more. line.text ++ more) (joined_texts leading)

joined_more : (old : Grouped) (text : List ℕ) (new : Grouped) → Continues old text new → joined old.leading ≡ text ++ joined new.leading
joined_more old text new is =
    joined_texts old.leading ∙ ap (flat_map (λ text. text)) is.first ∙ ap (λ more. text ++ more) (sym (joined_texts new.leading))

pub joined_step : (old : Grouped) (more : List ℕ) (new : Grouped) (all done next : List ℕ) → Continues old more new → all ≡ done ++ joined old.leading
    → next ≡ done ++ more → all ≡ next ++ joined new.leading
joined_step old more new all done next is before added =
    before ∙ ap (λ j. done ++ j) (joined_more old more new is) ∙ sym (append_assoc done more (joined new.leading))
    ∙ ap (λ n. n ++ joined new.leading) (sym added)

pub leading_smaller : (old : Grouped) (text : List ℕ) (new : Grouped) → Continues old text new → length new.leading < length old.leading
leading_smaller old text new is =
    omega (arith, ap length is.first, length-map old.leading (λ (line : Physical). line.text), length-map new.leading (λ (line : Physical). line.text))

-- a logical line with those that continue it
whole_line : (first : Logical) (leading : List Physical) → (fold continued first leading).line ≡ first.line
whole_line first [] = refl
whole_line first (line ∷ leading) = whole_line (continued first line) leading

whole_text : (first : Logical) (leading : List Physical) → (fold continued first leading).text ≡ first.text ++ joined leading
whole_text first [] = sym (append-nil first.text)
whole_text first (line ∷ leading) = whole_text (continued first line) leading ∙ append_assoc first.text line.text (joined leading)

-- what the first logical line gives
abbrev pub found : Result Entry Refused → Result (Option Entry) Refused
found answer = answer >>= (λ entry. Ok (Some entry))

pub first_is : (file : List ℕ) (folds : Bool) (old : Grouped) (line : Physical) (new : Grouped) (text : List ℕ) → old.leading ≡ [] → old ≡ with_line line new
    → text ≡ line.text ++ joined new.leading → first_entry file folds old.logical ≡ found (or_refused file line.number (pair_of folds text))
first_is file folds old line new text none is text_is =
    rw (begins old line new none is, whole_line (alone line) new.leading, whole_text (alone line) new.leading, text_is) refl

pub left_is : (old : Grouped) (line : Physical) (new : Grouped) → old.leading ≡ [] → old ≡ with_line line new → new.logical ≡ drop 1 old.logical
left_is old line new none is = rw (begins old line new none is) refl

pub alone_text : (text : List ℕ) (leading : List Physical) → leading ≡ [] → text ≡ text ++ joined leading
alone_text text leading none = rw none (sym (append-nil text))
