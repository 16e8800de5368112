-- The line that sets a name is read as that name and its value.
use Rattle.std.proofs.Common.{◌≡◌, ℕ, suc, ◌+◌, ◌-◌, ◌≤◌, Bool, true, false, ◌&&◌, not, List, [], ◌∷◌, ◌++◌, Some, length, get_or, drop, reverse, refl, ap, ◌∙◌, arith, eqb, append_assoc, append-nil, length-append}
use Rattle.std.specs.Prelude.{codes, nat_le}
use Rattle.std.specs.List.{list_all, list_any, position, position_or_len, prefix_len, suffix_len}
use Rattle.std.specs.Str.{bytes_eq}
use Rattle.std.proofs.Math.Seq.{take-append_seam, drop-append-add}
use Rattle.std.proofs.lemmas.Bool.{leb-true, lt-ltb, ne_eqb}
use Rattle.std.proofs.lemmas.List.{get_or-append_right, reverse-append}
use Rattle.std.proofs.lemmas.List.Folds.{list_any-append}
use Rattle.std.proofs.lemmas.Slice.Eq.{bytes_eq-Decides}
use Rattle.pf_base.specs.Text.Lines.{without_return}
use Rattle.pf_base.specs.Text.Logical.{is_ignored, starts_with_space}
use Rattle.pf_base.specs.Text.Space.{is_space, trimmed}
use Rattle.pf_maincf.specs.Edit.{is_writable}
use Rattle.pf_maincf.specs.Settings.{is_name, is_name_byte, setting_of}
use Rattle.pf_maincf.specs.declared.setting.Setting.{Setting}
use Rattle.pf_maincf.proofs.Ends.{has_feed, or_left, or_right}

-- the line of an assignment without its line feed
abbrev pub assignment_text : Setting → List ℕ
assignment_text assignment = assignment.name ++ codes " = " ++ assignment.value

pub and_left : (a b : Bool) → (a && b) ≡ true → a ≡ true
and_left true b h = refl
and_left false b h = h

pub and_right : (a b : Bool) → (a && b) ≡ true → b ≡ true
and_right true b h = h
and_right false b h = cc

pub not_true : (b : Bool) → not b ≡ true → b ≡ false
not_true true h = cc
not_true false h = refl

none_passes : (p q : ℕ → Bool) → ((x : ℕ) → p x ≡ true → q x ≡ false) → (xs : List ℕ) → list_all p xs ≡ true → list_any q xs ≡ false
none_passes p q f [] h = refl
none_passes p q f (x ∷ xs) h = rw (f x (and_left (p x) (list_all p xs) h)) (none_passes p q f xs (and_right (p x) (list_all p xs) h))

above_32 : (x : ℕ) → is_name_byte x ≡ true → 33 ≤ x
above_32 x h = leb-true 33 x (and_left (nat_le 33 x) (nat_le x 126) (and_left (nat_le 33 x && nat_le x 126) _ h))

no_feed : (x : ℕ) → is_name_byte x ≡ true → eqb x 10 ≡ false
no_feed x h = let k = above_32 x h in ne_eqb x 10 (λ e. omega arith)

no_space : (x : ℕ) → is_name_byte x ≡ true → is_space x ≡ false
no_space x h = let k = above_32 x h in rw (ne_eqb x 32 (λ e. omega arith), ne_eqb x 9 (λ e. omega arith))

-- what is known of an assignment, part by part
pub record IsSet (assignment : Setting) : Type 0 where
  pub name : is_name assignment.name ≡ true
  pub sign : list_any (λ b. eqb b 61) assignment.name ≡ false
  pub comment : eqb (get_or assignment.name 0 0) 35 ≡ false
  pub value : trimmed assignment.value ≡ assignment.value
  pub feed : has_feed assignment.value ≡ false
  pub returns : eqb (get_or assignment.value (length assignment.value - 1) 0) 13 ≡ false

pub is_writable_is : (assignment : Setting) → is_writable assignment ≡ true → IsSet assignment
is_writable_is assignment h =
    let h5 = and_left _ (not (eqb (get_or assignment.value (length assignment.value - 1) 0) 13)) h in
    let h4 = and_left _ (not (has_feed assignment.value)) h5 in
    let h3 = and_left _ (bytes_eq (trimmed assignment.value) assignment.value) h4 in
    let h2 = and_left (is_name assignment.name && not (list_any (λ b. eqb b 61) assignment.name)) (not (eqb (get_or assignment.name 0 0) 35)) h3 in
    record {
      name = and_left (is_name assignment.name) (not (list_any (λ b. eqb b 61) assignment.name)) h2;
      sign = not_true _ (and_right (is_name assignment.name) (not (list_any (λ b. eqb b 61) assignment.name)) h2);
      comment = not_true _ (and_right (is_name assignment.name && not (list_any (λ b. eqb b 61) assignment.name)) (not (eqb (get_or assignment.name 0 0) 35)) h3);
      value = (bytes_eq-Decides (trimmed assignment.value) assignment.value).0 (and_right _ (bytes_eq (trimmed assignment.value) assignment.value) h4);
      feed = not_true _ (and_right _ (not (has_feed assignment.value)) h5);
      returns = not_true _ (and_right _ (not (eqb (get_or assignment.value (length assignment.value - 1) 0) 13)) h);
    }

name_bytes : (assignment : Setting) → IsSet assignment → list_all is_name_byte assignment.name ≡ true
name_bytes assignment s = and_right _ (list_all is_name_byte assignment.name) s.name

pub text_feed : (assignment : Setting) → IsSet assignment → has_feed (assignment_text assignment) ≡ false
text_feed assignment s =
    rw (
      list_any-append (λ b. eqb b 10) (assignment.name ++ codes " = ") assignment.value,
      list_any-append (λ b. eqb b 10) assignment.name (codes " = "),
      none_passes is_name_byte (λ b. eqb b 10) no_feed assignment.name (name_bytes assignment s),
    ) s.feed

-- the first byte of a name is neither space nor a number sign
text_counts : (name more : List ℕ) → is_name name ≡ true → eqb (get_or name 0 0) 35 ≡ false
    → (is_ignored (name ++ more) ≡ false) × (starts_with_space (name ++ more) ≡ false)
text_counts [] more h k = cc
text_counts (b ∷ name) more h k =
    let space = no_space b (and_left (is_name_byte b) (list_all is_name_byte name) (and_right _ (list_all is_name_byte (b ∷ name)) h)) in
    (rw space k, space)

pub text_is_not_ignored : (assignment : Setting) → IsSet assignment → is_ignored (assignment_text assignment) ≡ false
text_is_not_ignored assignment s = rw
    (append_assoc assignment.name) (text_counts assignment.name (codes " = " ++ assignment.value) s.name s.comment).0

pub text_begins : (assignment : Setting) → IsSet assignment → starts_with_space (assignment_text assignment) ≡ false
text_begins assignment s = rw (append_assoc assignment.name) (text_counts assignment.name (codes " = " ++ assignment.value) s.name s.comment).1

-- the last byte is no carriage return
last_behind : (xs : List ℕ) (y : ℕ) (ys : List ℕ) → get_or (xs ++ y ∷ ys) (length (xs ++ y ∷ ys) - 1) 0 ≡ get_or (y ∷ ys) (length (y ∷ ys) - 1) 0
last_behind xs y ys =
    let n : length (xs ++ y ∷ ys) ≡ length xs + length (y ∷ ys) = length-append xs (y ∷ ys) in
    let i : length (xs ++ y ∷ ys) - 1 ≡ length xs + (length (y ∷ ys) - 1) = omega (arith, n) in
    let j : length xs + (length (y ∷ ys) - 1) - length xs ≡ length (y ∷ ys) - 1 = omega arith in
    ap (λ k. get_or (xs ++ y ∷ ys) k 0) i ∙ (get_or-append_right xs (y ∷ ys) (length xs) (length xs + (length (y ∷ ys) - 1)) 0 refl (omega arith)
    ∙ ap (λ k. get_or (y ∷ ys) k 0) j)

no_return : (line : List ℕ) → eqb (get_or line (length line - 1) 0) 13 ≡ false → without_return line ≡ line
no_return line h = rw h

value_last : (prefix value : List ℕ) → eqb (get_or value (length value - 1) 0) 13 ≡ false
    → eqb (get_or ((prefix ++ codes " = ") ++ value) (length ((prefix ++ codes " = ") ++ value) - 1) 0) 13 ≡ false
value_last prefix [] h = rw (append-nil (prefix ++ codes " = "), last_behind prefix 32 (61 ∷ 32 ∷ []))
value_last prefix (b ∷ bytes) h = ap (λ x. eqb x 13) (last_behind (prefix ++ codes " = ") b bytes) ∙ h

pub text_whole : (assignment : Setting) → IsSet assignment → without_return (assignment_text assignment) ≡ assignment_text assignment
text_whole assignment s = no_return (assignment_text assignment) (value_last assignment.name assignment.value s.returns)

-- the first equals sign
first_sign : (xs ys : List ℕ) → list_any (λ b. eqb b 61) xs ≡ false → position_or_len (λ b. eqb b 61) (xs ++ 61 ∷ ys) ≡ length xs
first_sign [] ys h = refl
first_sign (x ∷ xs) ys h =
    let first = or_left (eqb x 61) (list_any (λ b. eqb b 61) xs) h in
    let behind = first_sign xs ys (or_right (eqb x 61) (list_any (λ b. eqb b 61) xs) h) in
    rw (first, behind) (omega arith)

sign_at : (xs ys : List ℕ) → list_any (λ b. eqb b 61) xs ≡ false → position (λ b. eqb b 61) (xs ++ 61 ∷ ys) ≡ Some (length xs)
sign_at xs ys h =
    let n : length (xs ++ 61 ∷ ys) ≡ length xs + length (61 ∷ ys) = length-append xs (61 ∷ ys) in
    rw (first_sign xs ys h, lt-ltb (length xs) (length (xs ++ 61 ∷ ys)) (omega (arith, n)))

pub parted : (line last : ℕ) (xs ys : List ℕ) → list_any (λ b. eqb b 61) xs ≡ false
    → setting_of (record { line = line; last = last; text = xs ++ 61 ∷ ys }) ≡ Some (record { line = line; name = trimmed xs; value = trimmed ys })
parted line last xs ys h = rw (sign_at xs ys h, take-append_seam xs (61 ∷ ys), drop-append-add xs (61 ∷ ys) 1)

-- space round a name and a value is dropped
none_at_end : (xs : List ℕ) → list_any is_space xs ≡ false → list_any is_space (reverse xs) ≡ false
none_at_end [] h = refl
none_at_end (x ∷ xs) h =
    rw (
      reverse-append (x ∷ []) xs,
      list_any-append is_space (reverse xs) (x ∷ []),
      none_at_end xs (or_right (is_space x) (list_any is_space xs) h),
      or_left (is_space x) (list_any is_space xs) h,
    )

no_prefix : (xs : List ℕ) → list_any is_space xs ≡ false → prefix_len is_space xs ≡ 0
no_prefix [] h = refl
no_prefix (x ∷ xs) h = rw (or_left (is_space x) (list_any is_space xs) h)

name_trimmed : (name : List ℕ) → list_any is_space name ≡ false → trimmed (name ++ 32 ∷ []) ≡ name
name_trimmed [] h = refl
name_trimmed (b ∷ name) h =
    let n : length (b ∷ (name ++ 32 ∷ [])) ≡ length (b ∷ name) + 1 = length-append (b ∷ name) (32 ∷ []) in
    let suffix : suffix_len is_space (b ∷ (name ++ 32 ∷ [])) ≡ 1 =
    rw (reverse-append (b ∷ name) (32 ∷ []), no_prefix (reverse (b ∷ name)) (none_at_end (b ∷ name) h)) in
    let prefix : length (b ∷ (name ++ 32 ∷ [])) - 1 ≡ length (b ∷ name) = omega (arith, n) in
    rw (or_left (is_space b) (list_any is_space name) h, suffix, prefix) (take-append_seam (b ∷ name) (32 ∷ []))

drop_first : (n x : ℕ) (xs : List ℕ) → drop (1 + n) (x ∷ xs) ≡ drop n xs
drop_first n x xs = let e : 1 + n ≡ suc n = omega arith in rw e

value_trimmed : (value : List ℕ) → trimmed value ≡ value → trimmed (32 ∷ value) ≡ value
value_trimmed [] h = refl
value_trimmed (b ∷ bytes) h = rw (drop_first (prefix_len is_space (b ∷ bytes)) 32 (b ∷ bytes)) h

pub text_says : (assignment : Setting) (line last : ℕ) → IsSet assignment
    → setting_of (record { line = line; last = last; text = assignment_text assignment }) ≡ Some (record { line = line; name = assignment.name; value = assignment.value })
text_says assignment line last s =
    let signs : list_any (λ b. eqb b 61) (assignment.name ++ 32 ∷ []) ≡ false = rw (list_any-append (λ b. eqb b 61) assignment.name (32 ∷ []), s.sign) in
    let is = parted line last (assignment.name ++ 32 ∷ []) (32 ∷ assignment.value) signs in
    let text : assignment_text assignment ≡ (assignment.name ++ 32 ∷ []) ++ 61 ∷ 32 ∷ assignment.value = simp append_assoc in
    rw (text, is, name_trimmed assignment.name (none_passes is_name_byte is_space no_space assignment.name (name_bytes assignment s)), value_trimmed assignment.value s.value)
