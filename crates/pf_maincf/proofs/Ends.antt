-- Where the lines of a text end.
use Rattle.std.proofs.Common.{◌≡◌, ℕ, Bool, true, false, if◌then◌else◌, ◌||◌, ◌-◌, ◌≤◌, List, [], ◌∷◌, ◌++◌, length, get_or, refl, sym, ap, ◌∙◌, arith, eqb, Option, Some, None}
use Rattle.std.specs.List.{list_any}
use Rattle.std.proofs.lemmas.Bool.{ne_eqb}
use Rattle.pf_base.specs.Text.Lines.{lines, rest}
use Rattle.pf_base.specs.Clauses.Pieces.{onto_line, unless_line}
use Rattle.pf_base.proofs.LineEnds.{lines-cons, lines-nil, rest-cons, rest-nil, rest_of_none}
use Rattle.pf_maincf.specs.Edit.{is_ended}

-- a test either way
pub either_way : {P : Type 0} (b : Bool) → (b ≡ true → P) → (b ≡ false → P) → P
either_way true f g = f refl
either_way false f g = g refl

-- an option either way
pub either_option : {A P : Type 0} (o : Option A) → (o ≡ None → P) → ((x : A) → o ≡ Some x → P) → P
either_option None f g = f refl
either_option (Some x) f g = g x refl

-- whether one of the bytes is a line feed
abbrev pub has_feed : List ℕ → Bool
has_feed bytes = list_any (λ b. eqb b 10) bytes

pub or_left : (a b : Bool) → (a || b) ≡ false → a ≡ false
or_left true b h = h
or_left false b h = refl

pub or_right : (a b : Bool) → (a || b) ≡ false → b ≡ false
or_right true b h = cc
or_right false b h = h

pub lines_at : (xs ys : List ℕ) → has_feed xs ≡ false → lines (xs ++ (10 ∷ ys)) ≡ xs ∷ lines ys
lines_at [] ys h = lines-cons 10 ys
lines_at (x ∷ xs) ys h = lines-cons x (xs ++ (10 ∷ ys)) ∙ rw (or_left (eqb x 10) (has_feed xs) h, lines_at xs ys (or_right (eqb x 10) (has_feed xs) h))

pub rest_at : (xs ys : List ℕ) → has_feed xs ≡ false → rest (xs ++ (10 ∷ ys)) ≡ rest ys
rest_at [] ys h = rest-cons 10 ys
rest_at (x ∷ xs) ys h = rest-cons x (xs ++ (10 ∷ ys)) ∙ rw (or_left (eqb x 10) (has_feed xs) h, lines_at xs ys (or_right (eqb x 10) (has_feed xs) h)) (rest_at xs ys (or_right (eqb x 10) (has_feed xs) h))

pub lines_none : (xs : List ℕ) → has_feed xs ≡ false → lines xs ≡ []
lines_none [] h = lines-nil
lines_none (x ∷ xs) h = lines-cons x xs ∙ rw (or_left (eqb x 10) (has_feed xs) h, lines_none xs (or_right (eqb x 10) (has_feed xs) h))

length_more : (y : ℕ) (ys : List ℕ) → eqb (length (y ∷ ys)) 0 ≡ false
length_more y ys = ne_eqb (length (y ∷ ys)) 0 (λ e. omega arith)

pub rest_none : (xs : List ℕ) → has_feed xs ≡ false → rest xs ≡ xs
rest_none xs h = rest_of_none xs (lines_none xs h)

-- a text ends in a line feed where nothing is after the last one
last_by : (x : ℕ) (xs : List ℕ) → eqb (get_or (x ∷ xs) (length xs) 0) 10 ≡ eqb (length (if eqb x 10 then rest xs else unless_line (lines xs) (x ∷ xs) (rest xs))) 0
last_by x [] = rw (lines-nil, rest-nil) (either_way (eqb x 10) (λ h. rw h) (λ h. rw h (sym (length_more x []))))
last_by x (y ∷ ys) =
    let next = last_by y ys ∙ sym (ap (λ r. eqb (length r) 0) (rest-cons y ys)) in
    either_way (eqb x 10) (λ h. rw h next) (λ h. rw h (behind x (y ∷ ys) (lines (y ∷ ys)) refl (length_more y ys) next)) where
      behind : (x : ℕ) (xs : List ℕ) (L : List (List ℕ)) → lines xs ≡ L → eqb (length xs) 0 ≡ false
          → {t : Bool} → t ≡ eqb (length (rest xs)) 0 → t ≡ eqb (length (unless_line L (x ∷ xs) (rest xs))) 0
      behind x xs [] none more next = next ∙ (ap (λ r. eqb (length r) 0) (rest_of_none xs none) ∙ (more ∙ sym (length_more x xs)))
      behind x xs (line ∷ L) is more next = next

pub last_feed : (xs : List ℕ) → 1 ≤ length xs → eqb (get_or xs (length xs - 1) 0) 10 ≡ is_ended xs
last_feed [] h = absurd (omega arith)
last_feed (x ∷ xs) h =
    let e : length (x ∷ xs) - 1 ≡ length xs = omega arith in rw e (last_by x xs ∙ sym (ap (λ r. eqb (length r) 0) (rest-cons x xs)))

-- no line holds a line feed, and neither does what is after the last one
abbrev pub IsClean : List (List ℕ) → Type 0
IsClean [] = Unit {0}
IsClean (line ∷ lines) = (has_feed line ≡ false) × IsClean lines

pub clean_lines : (xs : List ℕ) → IsClean (lines xs)
clean_lines [] = rw lines-nil tt
clean_lines (x ∷ xs) =
    let behind = clean_lines xs in
    rw (lines-cons x xs) ((elim (eqb x 10) as (λ b. eqb x 10 ≡ b → IsClean (if b then [] ∷ lines xs else onto_line (x ∷ []) (lines xs))) [
      | true ↦ λ h. (refl, behind)
      | false ↦ λ h. onto x (lines xs) h behind
    ]) refl) where
      onto : (x : ℕ) (L : List (List ℕ)) → eqb x 10 ≡ false → IsClean L → IsClean (onto_line (x ∷ []) L)
      onto x [] h clean = tt
      onto x (line ∷ L) h clean = (rw h clean.0, clean.1)

pub clean_rest : (xs : List ℕ) → has_feed (rest xs) ≡ false
clean_rest [] = rw rest-nil refl
clean_rest (x ∷ xs) =
    let behind = clean_rest xs in
    rw (rest-cons x xs) ((elim (eqb x 10) as (λ b. eqb x 10 ≡ b → has_feed (if b then rest xs else unless_line (lines xs) (x ∷ xs) (rest xs)) ≡ false) [
      | true ↦ λ h. behind
      | false ↦ λ h. unless x xs (lines xs) refl h behind
    ]) refl) where
      unless : (x : ℕ) (xs : List ℕ) (L : List (List ℕ)) → lines xs ≡ L → eqb x 10 ≡ false → has_feed (rest xs) ≡ false
          → has_feed (unless_line L (x ∷ xs) (rest xs)) ≡ false
      unless x xs [] none h behind = rw h (rw (rest_of_none xs none) at behind)
      unless x xs (line ∷ L) is h behind = behind
