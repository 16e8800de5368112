-- Lemmas on lines and what is after the last line feed.
use Rattle.std.proofs.Common.{◌≡◌, ◌≢◌, ℕ, Bool, true, false, not, if◌then◌else◌, suc, ◌+◌, ◌-◌, ◌<◌, List, [], ◌∷◌, ◌++◌, length, get_or, take, drop, reverse, refl, sym, ap, ◌∙◌, inl, inr, arith, eqb, cond}
use Rattle.std.specs.List.{All, join_with_byte, onto_first, prefix_len, suffix_len}
use Rattle.std.specs.Prelude.{◌⊎◌}
use Rattle.std.proofs.lemmas.Bool.{ne_eqb}
use Rattle.std.proofs.lemmas.List.{append_cancel_left, drop_more, get_or-take, get_or_default, length-reverse, length-take-le, length_push, reverse-append, take-append-drop, take_at}
use Rattle.std.proofs.lemmas.List.Splits.{join_with_byte-slice_split, slice_split-cons_no, slice_split-cons_yes, slice_split_at, slice_split_none}
use Rattle.pf_base.specs.Text.Lines.{is_feed, lines, parts, rest}
use Rattle.pf_base.specs.Clauses.Pieces.{onto_line, unless_line}

-- how many pass a test from the end back, where one more is before them
module _ (q : ℕ → Bool) where
  prefix_all : (xs ys : List ℕ) → prefix_len q xs ≡ length xs → prefix_len q (xs ++ ys) ≡ length xs + prefix_len q ys
  prefix_all [] ys all = omega arith
  prefix_all (x ∷ xs) ys all =
      let more = prefix_all xs ys in
      (elim (q x) as (λ t. cond t (1 + prefix_len q xs) 0 ≡ suc (length xs) → cond t (1 + prefix_len q (xs ++ ys)) 0 ≡ suc (length xs) + prefix_len q ys) [
        | true ↦ λ all. omega (arith, more (omega (arith, all)))
        | false ↦ λ all. absurd (omega (arith, all))
      ]) all

  prefix_some : (xs ys : List ℕ) → prefix_len q xs < length xs → prefix_len q (xs ++ ys) ≡ prefix_len q xs
  prefix_some [] ys some = absurd (omega (arith, some))
  prefix_some (x ∷ xs) ys some =
      let more = prefix_some xs ys in
      (elim (q x) as (λ t. cond t (1 + prefix_len q xs) 0 < suc (length xs) → cond t (1 + prefix_len q (xs ++ ys)) 0 ≡ cond t (1 + prefix_len q xs) 0) [
        | true ↦ λ some. ap (λ n. 1 + n) (more (omega (arith, some)))
        | false ↦ λ some. refl
      ]) some

  suffix_all : (x : ℕ) (xs : List ℕ) → suffix_len q xs ≡ length xs → suffix_len q (x ∷ xs) ≡ length xs + cond (q x) 1 0
  suffix_all x xs all =
      ap (prefix_len q) (reverse-append (x ∷ []) xs) ∙ prefix_all (reverse xs) (x ∷ []) (all ∙ sym (length-reverse xs))
      ∙ ap (λ n. n + cond (q x) 1 0) (length-reverse xs)

  suffix_some : (x : ℕ) (xs : List ℕ) → suffix_len q xs < length xs → suffix_len q (x ∷ xs) ≡ suffix_len q xs
  suffix_some x xs some =
      ap (prefix_len q) (reverse-append (x ∷ []) xs) ∙ prefix_some (reverse xs) (x ∷ []) (omega (arith, some, length-reverse xs))

-- how many bytes are after the last line feed
abbrev behind : List ℕ → ℕ
behind text = suffix_len (λ b. not (is_feed b)) text

rest_from : (text : List ℕ) (n : ℕ) → length text - behind text ≡ n → rest text ≡ drop n text
unfolding rest
rest_from text n is = ap (λ k. drop k text) is

rest_kept : (b : ℕ) (bytes : List ℕ) → behind (b ∷ bytes) ≡ behind bytes → behind bytes < length bytes → rest (b ∷ bytes) ≡ rest bytes
rest_kept b bytes same some =
    let n : length (b ∷ bytes) - behind (b ∷ bytes) ≡ suc (length bytes - behind bytes) = omega (arith, same, some) in
    rest_from (b ∷ bytes) (suc (length bytes - behind bytes)) n ∙ sym (rest_from bytes (length bytes - behind bytes) refl)

-- a text is its one part, or its last part is what is after its last line feed
abbrev IsParted : List ℕ → Type 0
IsParted text =
    ((behind text ≡ length text) × (parts text ≡ text ∷ []))
    ⊎ ((behind text < length text) × (first : List ℕ) × (others : List (List ℕ)) × (parts text ≡ first ∷ (others ++ (rest text ∷ []))))

parted_by : (b : ℕ) (bytes : List ℕ) (t : Bool) → is_feed b ≡ t → IsParted bytes → IsParted (b ∷ bytes)
parted_by b bytes true feed (inl whole) =
    let n = suffix_all (λ b. not (is_feed b)) b bytes whole.0 ∙ ap (λ t. length bytes + cond (not t) 1 0) feed in
    let behind_is : behind (b ∷ bytes) ≡ length bytes = omega (arith, n) in
    let cut : rest (b ∷ bytes) ≡ bytes = rest_from (b ∷ bytes) 1 (omega (arith, behind_is)) in
    inr (omega (arith, behind_is), [], [], slice_split-cons_yes is_feed b bytes feed ∙ ap (λ p. [] ∷ p) whole.1 ∙ ap (λ r. [] ∷ r ∷ []) (sym cut))
parted_by b bytes true feed (inr cut) =
    let same = suffix_some (λ b. not (is_feed b)) b bytes cut.0 in
    inr (
      omega (arith, same, cut.0),
      [],
      cut.1 ∷ cut.2,
      slice_split-cons_yes is_feed b bytes feed ∙ ap (λ p. [] ∷ p) cut.3
          ∙ ap (λ r. [] ∷ (cut.1 ∷ (cut.2 ++ (r ∷ [])))) (sym (rest_kept b bytes same cut.0)),
    )
parted_by b bytes false feed (inl whole) =
    let n = suffix_all (λ b. not (is_feed b)) b bytes whole.0 ∙ ap (λ t. length bytes + cond (not t) 1 0) feed in
    inl (omega (arith, n), slice_split-cons_no is_feed b bytes feed ∙ ap (onto_first b) whole.1)
parted_by b bytes false feed (inr cut) =
    let same = suffix_some (λ b. not (is_feed b)) b bytes cut.0 in
    inr (
      omega (arith, same, cut.0),
      b ∷ cut.1,
      cut.2,
      slice_split-cons_no is_feed b bytes feed ∙ ap (onto_first b) cut.3
          ∙ ap (λ r. (b ∷ cut.1) ∷ (cut.2 ++ (r ∷ []))) (sym (rest_kept b bytes same cut.0)),
    )

is_parted : (text : List ℕ) → IsParted text
is_parted [] = inl (refl, refl)
is_parted (b ∷ bytes) = parted_by b bytes (is_feed b) refl (is_parted bytes)

lines_of : (text : List ℕ) (L : List (List ℕ)) (r : List ℕ) → parts text ≡ L ++ (r ∷ []) → lines text ≡ L
unfolding lines
lines_of text L r is =
    let n : length (L ++ (r ∷ [])) - 1 ≡ length L = omega (arith, length_push L r) in
    ap (λ p. take (length p - 1) p) is ∙ ap (λ k. take k (L ++ (r ∷ []))) n ∙ take_at L (r ∷ []) (length L) refl

-- the parts are the lines and what is after the last line feed
pub parts_are : (text : List ℕ) → parts text ≡ lines text ++ (rest text ∷ [])
parts_are text = by (is_parted text) where
  by : IsParted text → parts text ≡ lines text ++ (rest text ∷ [])
  by (inl whole) =
      let all : rest text ≡ text = rest_from text 0 (omega (arith, whole.0)) in
      whole.1 ∙ ap (λ L. L ++ (text ∷ [])) (sym (lines_of text [] text whole.1)) ∙ ap (λ r. lines text ++ (r ∷ [])) (sym all)
  by (inr cut) = cut.3 ∙ ap (λ L. L ++ (rest text ∷ [])) (sym (lines_of text (cut.1 ∷ cut.2) (rest text) cut.3))

rest_of : (text : List ℕ) (L : List (List ℕ)) (r : List ℕ) → parts text ≡ L ++ (r ∷ []) → rest text ≡ r
rest_of text L r is =
    let last : L ++ (rest text ∷ []) ≡ L ++ (r ∷ []) = ap (λ l. l ++ (rest text ∷ [])) (sym (lines_of text L r is)) ∙ sym (parts_are text) ∙ is in
    ap (λ p. get_or p 0 []) (append_cancel_left L (rest text ∷ []) (r ∷ []) last)

pub lines-nil : lines [] ≡ []
lines-nil = lines_of [] [] [] refl

pub rest-nil : rest [] ≡ []
rest-nil = rest_of [] [] [] refl

-- where there is no line, all is after the last line feed
pub rest_of_none : (xs : List ℕ) → lines xs ≡ [] → rest xs ≡ xs
rest_of_none xs none =
    sym (ap (join_with_byte 10) (parts_are xs ∙ ap (λ L. L ++ (rest xs ∷ [])) none)) ∙ join_with_byte-slice_split 10 xs

-- the line that a byte is before, and what is after the last line feed
onto_split : (b : ℕ) (bytes : List ℕ) (L : List (List ℕ)) → lines bytes ≡ L
    → onto_first b (L ++ (rest bytes ∷ [])) ≡ onto_line (b ∷ []) L ++ (unless_line L (b ∷ bytes) (rest bytes) ∷ [])
onto_split b bytes [] none = ap (λ r. (b ∷ r) ∷ []) (rest_of_none bytes none)
onto_split b bytes (line ∷ L) is = refl

-- one more byte
abbrev lines_with : ℕ → List ℕ → List (List ℕ)
lines_with b bytes = if eqb b 10 then [] ∷ lines bytes else onto_line (b ∷ []) (lines bytes)

abbrev rest_with : ℕ → List ℕ → List ℕ
rest_with b bytes = if eqb b 10 then rest bytes else unless_line (lines bytes) (b ∷ bytes) (rest bytes)

parts-cons : (b : ℕ) (bytes : List ℕ) → parts (b ∷ bytes) ≡ lines_with b bytes ++ (rest_with b bytes ∷ [])
parts-cons b bytes =
    elim (eqb b 10) as (λ t. cond t ([] ∷ parts bytes) (onto_first b (parts bytes))
    ≡ (if t then [] ∷ lines bytes else onto_line (b ∷ []) (lines bytes)) ++ ((if t then rest bytes else unless_line (lines bytes) (b ∷ bytes) (rest bytes)) ∷ [])) [
      | true ↦ ap (λ p. [] ∷ p) (parts_are bytes)
      | false ↦ ap (onto_first b) (parts_are bytes) ∙ onto_split b bytes (lines bytes) refl
    ]

pub lines-cons : (b : ℕ) (bytes : List ℕ) → lines (b ∷ bytes) ≡ (if eqb b 10 then [] ∷ lines bytes else onto_line (b ∷ []) (lines bytes))
lines-cons b bytes = lines_of (b ∷ bytes) (lines_with b bytes) (rest_with b bytes) (parts-cons b bytes)

pub rest-cons : (b : ℕ) (bytes : List ℕ) → rest (b ∷ bytes) ≡ (if eqb b 10 then rest bytes else unless_line (lines bytes) (b ∷ bytes) (rest bytes))
rest-cons b bytes = rest_of (b ∷ bytes) (lines_with b bytes) (rest_with b bytes) (parts-cons b bytes)

-- no byte is a line feed
abbrev pub HasNoFeed : List ℕ → Type 0
HasNoFeed xs = (k : ℕ) → k < length xs → get_or xs k 0 ≢ 10

no_feed : (xs : List ℕ) → HasNoFeed xs → All (λ b. is_feed b ≡ false) xs
no_feed xs h k d lt = ap is_feed (get_or_default xs k d 0 lt) ∙ ne_eqb (get_or xs k 0) 10 (h k lt)

pub lines_no_feed : (xs : List ℕ) → HasNoFeed xs → lines xs ≡ []
lines_no_feed xs h = lines_of xs [] xs (slice_split_none is_feed xs (no_feed xs h))

pub rest_no_feed : (xs : List ℕ) → HasNoFeed xs → rest xs ≡ xs
rest_no_feed xs h = rest_of_none xs (lines_no_feed xs h)

parts_at_feed : (xs ys : List ℕ) → HasNoFeed xs → parts (xs ++ (10 ∷ ys)) ≡ (xs ∷ lines ys) ++ (rest ys ∷ [])
parts_at_feed xs ys h = slice_split_at is_feed xs 10 ys (no_feed xs h) refl ∙ ap (λ p. xs ∷ p) (parts_are ys)

pub lines_at_feed : (xs ys : List ℕ) → HasNoFeed xs → lines (xs ++ (10 ∷ ys)) ≡ xs ∷ lines ys
lines_at_feed xs ys h = lines_of (xs ++ (10 ∷ ys)) (xs ∷ lines ys) (rest ys) (parts_at_feed xs ys h)

pub rest_at_feed : (xs ys : List ℕ) → HasNoFeed xs → rest (xs ++ (10 ∷ ys)) ≡ rest ys
rest_at_feed xs ys h = rest_of (xs ++ (10 ∷ ys)) (xs ∷ lines ys) (rest ys) (parts_at_feed xs ys h)

pub lines_of_line : (xs : List ℕ) → HasNoFeed xs → lines (xs ++ (10 ∷ [])) ≡ xs ∷ []
lines_of_line xs h = lines_at_feed xs [] h ∙ ap (λ L. xs ∷ L) lines-nil

-- the first line feed of these bytes is at n
pub record IsFirstFeed (bytes : List ℕ) (n : ℕ) : Type 0 where
  pub within : n < length bytes
  pub feed : get_or bytes n 0 ≡ 10
  pub before : (k : ℕ) → k < n → get_or bytes k 0 ≢ 10

prefix_no_feed : (bytes : List ℕ) (n : ℕ) → IsFirstFeed bytes n → HasNoFeed (take n bytes)
prefix_no_feed bytes n f k lt =
    let len = length-take-le n bytes (omega (arith, f.within)) in
    let below : k < n = omega (arith, len) in
    rw (get_or-take n bytes k 0 below) (f.before k below)

pub cut_at_feed : (bytes : List ℕ) (n : ℕ) → IsFirstFeed bytes n → bytes ≡ take n bytes ++ (10 ∷ drop (n + 1) bytes)
cut_at_feed bytes n f =
    sym (take-append-drop n bytes) ∙ ap (λ l. take n bytes ++ l) (drop_more bytes n 0 f.within ∙ ap (λ b. b ∷ drop (n + 1) bytes) f.feed)

pub lines_at_first : (bytes : List ℕ) (n : ℕ) → IsFirstFeed bytes n → lines bytes ≡ take n bytes ∷ lines (drop (n + 1) bytes)
lines_at_first bytes n f = ap lines (cut_at_feed bytes n f) ∙ lines_at_feed (take n bytes) (drop (n + 1) bytes) (prefix_no_feed bytes n f)

pub lines_of_first : (bytes : List ℕ) (n : ℕ) → IsFirstFeed bytes n → lines (take n bytes ++ (10 ∷ [])) ≡ take n bytes ∷ []
lines_of_first bytes n f = lines_of_line (take n bytes) (prefix_no_feed bytes n f)

pub rest_at_first : (bytes : List ℕ) (n : ℕ) → IsFirstFeed bytes n → rest bytes ≡ rest (drop (n + 1) bytes)
rest_at_first bytes n f = ap rest (cut_at_feed bytes n f) ∙ rest_at_feed (take n bytes) (drop (n + 1) bytes) (prefix_no_feed bytes n f)

onto_line-onto_line : (x : ℕ) (xs : List ℕ) (Y : List (List ℕ)) → onto_line (x ∷ []) (onto_line xs Y) ≡ onto_line (x ∷ xs) Y
onto_line-onto_line x xs [] = refl
onto_line-onto_line x xs (y ∷ ys) = refl

lines_seam : (x : ℕ) (xs : List ℕ) (L : List (List ℕ)) (R : List ℕ) (Y : List (List ℕ)) → (L ≡ [] → R ≡ xs)
    → onto_line (x ∷ []) (L ++ onto_line R Y) ≡ onto_line (x ∷ []) L ++ onto_line (unless_line L (x ∷ xs) R) Y
lines_seam x xs [] R Y h = ap (λ r. onto_line (x ∷ []) (onto_line r Y)) (h refl) ∙ onto_line-onto_line x xs Y
lines_seam x xs (l ∷ ls) R Y h = refl

-- what two texts in turn have: a line may lie across the seam
pub lines-append : (xs ys : List ℕ) → lines (xs ++ ys) ≡ lines xs ++ onto_line (rest xs) (lines ys)
lines-append [] ys = rw (lines-nil, rest-nil) (none (lines ys)) where
  none : (Y : List (List ℕ)) → Y ≡ onto_line [] Y
  none [] = refl
  none (y ∷ Y) = refl
lines-append (x ∷ xs) ys =
    rw (lines-cons x (xs ++ ys), lines-cons x xs, rest-cons x xs) (
    elim (eqb x 10) as (λ b. (if b then [] ∷ lines (xs ++ ys) else onto_line (x ∷ []) (lines (xs ++ ys)))
    ≡ (if b then [] ∷ lines xs else onto_line (x ∷ []) (lines xs))
    ++ onto_line (if b then rest xs else unless_line (lines xs) (x ∷ xs) (rest xs)) (lines ys)) [
      | true ↦ ap (λ l. [] ∷ l) (lines-append xs ys)
      | false ↦ ap (onto_line (x ∷ [])) (lines-append xs ys) ∙ lines_seam x xs (lines xs) (rest xs) (lines ys) (rest_of_none xs)
    ]
    )

rest_seam : (x : ℕ) (xs ys : List ℕ) (L : List (List ℕ)) (R : List ℕ) (Y : List (List ℕ)) (Q : List ℕ)
    → unless_line (L ++ onto_line R Y) (x ∷ (xs ++ ys)) (unless_line Y (R ++ ys) Q) ≡ unless_line Y (unless_line L (x ∷ xs) R ++ ys) Q
rest_seam x xs ys [] R [] Q = refl
rest_seam x xs ys [] R (y ∷ Y) Q = refl
rest_seam x xs ys (l ∷ ls) R Y Q = refl

pub rest-append : (xs ys : List ℕ) → rest (xs ++ ys) ≡ unless_line (lines ys) (rest xs ++ ys) (rest ys)
rest-append [] ys = rw rest-nil (none (lines ys) (rest_of_none ys)) where
  none : (Y : List (List ℕ)) → (Y ≡ [] → rest ys ≡ ys) → rest ys ≡ unless_line Y ys (rest ys)
  none [] h = h refl
  none (y ∷ Y) h = refl
rest-append (x ∷ xs) ys =
    rw (rest-cons x (xs ++ ys), rest-cons x xs) (
    elim (eqb x 10) as (λ b. (if b then rest (xs ++ ys) else unless_line (lines (xs ++ ys)) (x ∷ (xs ++ ys)) (rest (xs ++ ys)))
    ≡ unless_line (lines ys) ((if b then rest xs else unless_line (lines xs) (x ∷ xs) (rest xs)) ++ ys) (rest ys)) [
      | true ↦ rest-append xs ys
      | false ↦ rw (lines-append xs ys, rest-append xs ys) (rest_seam x xs ys (lines xs) (rest xs) (lines ys) (rest ys))
    ]
    )
