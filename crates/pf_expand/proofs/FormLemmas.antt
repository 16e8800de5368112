-- The texts of a part, and the text after it, are shorter than the text.
use Rattle.std.proofs.Common.{◌≡◌, ◌≢◌, ℕ, ◌+◌, ◌<◌, ◌≤◌, ◌==◌, ◌&&◌, Bool, suc, true, false, nat_lt, List, [], ◌∷◌, length, take, drop, Option, None, Some, IfSome, refl, arith, cond, if◌then◌else◌}
use Rattle.std.proofs.lemmas.Bool.{eqb-false, ltb-true}
use Rattle.std.proofs.lemmas.List.{length-drop, length-take-le}
use Rattle.std.proofs.lemmas.List.Sums.{prefix_len-le-length}
use Rattle.std.specs.List.{list_all, position, position_or_len, prefix_len}
use Rattle.std.specs.Option.{option_and_then, option_map}
use Rattle.pf_base.specs.Text.Braces.{open_behind, partner}
use Rattle.pf_base.specs.Text.Space.{is_space, trimmed, without_leading_space}
use Rattle.pf_expand.specs.Forms.{Part, before, begins_with_brace, behind_brace, behind_name, brace_content, braced, first_part, form_before, form_of, if_alone, if_empty, if_full, in_brace, in_parenthesis, is_name_byte, name_before, one_text, parenthesised, plain_length, second_text, two_braces, with_brace, with_name, with_name_alone, with_parenthesis}
use Rattle.pf_expand.specs.Forms.{Part as part}

map_then : {A B : Type 0} (f : A → B) (x : Option A) {P : A → Type 0} (Q : B → Type 0) → IfSome x P → ((a : A) → P a → Q (f a)) → IfSome (option_map f x) Q
map_then f None Q h g = tt
map_then f (Some a) Q h g = g a h

and_then : {A B : Type 0} (f : A → Option B) (x : Option A) {P : A → Type 0} (Q : B → Type 0) → IfSome x P → ((a : A) → P a → IfSome (f a) Q) → IfSome (option_and_then f x) Q
and_then f None Q h g = tt
and_then f (Some a) Q h g = g a h

-- how much a part's texts and its name take at least
abbrev pub size : Part → ℕ
size (part.literal bytes) = 0
size (part.name name) = 0
size (part.choice name full empty) = length full + length empty + 2

-- a cut leaves so much of a text out
abbrev pub Cuts : ℕ → List ℕ → List ℕ × List ℕ → Type 0
Cuts n text cut = length cut.0 + length cut.1 + n ≤ length text

partner_within : (depth : ℕ) (text : List ℕ) → IfSome (partner depth text) (λ n. n < length text)
partner_within depth [] = tt
partner_within depth (b ∷ text) =
    elim (b == 125 && depth == 0) as (λ t. IfSome (if t then Some 0 else option_map (λ n. n + 1) (partner (open_behind depth b) text)) (λ n. n < length (b ∷ text))) [
      | true ↦ omega arith
      | false ↦ map_then (λ n. n + 1) (partner (open_behind depth b) text) _ (partner_within (open_behind depth b) text) (λ n h. omega (arith, h))
    ]

position_within : (p : ℕ → Bool) (text : List ℕ) → IfSome (position p text) (λ n. n < length text)
position_within p text =
    (elim (nat_lt (position_or_len p text) (length text)) as (λ t. nat_lt (position_or_len p text) (length text) ≡ t
    → IfSome (cond t (Some (position_or_len p text)) None) (λ n. n < length text)) [
      | true ↦ λ e. ltb-true _ _ e
      | false ↦ λ e. tt
    ]) refl

cut_size : (text : List ℕ) (n : ℕ) → n < length text → Cuts 1 text (take n text, drop (n + 1) text)
cut_size text n h = omega (arith, length-take-le n text (omega (arith, h)), length-drop (n + 1) text, h)

in_brace_size : (text : List ℕ) → IfSome (in_brace text) (Cuts 1 text)
in_brace_size text = map_then (λ n. (take n text, drop (n + 1) text)) (partner 0 text) _ (partner_within 0 text) (cut_size text)

in_parenthesis_size : (text : List ℕ) → IfSome (in_parenthesis text) (Cuts 1 text)
in_parenthesis_size text = map_then (λ n. (take n text, drop (n + 1) text)) (position (λ b. b == 41) text) _ (position_within (λ b. b == 41) text) (cut_size text)

space_size : (text : List ℕ) → length (without_leading_space text) ≤ length text
space_size text = omega (arith, length-drop (prefix_len is_space text) text)

name_before_size : (text : List ℕ) → IfSome (name_before text) (λ cut. length cut.1 < length text)
name_before_size text =
    (elim (prefix_len is_name_byte text == 0) as (λ t. (prefix_len is_name_byte text == 0) ≡ t
    → IfSome {T = List ℕ × List ℕ} (if t then None else Some (take (prefix_len is_name_byte text) text, drop (prefix_len is_name_byte text) text)) (λ cut. length cut.1 < length text)) [
      | true ↦ λ e. tt
      | false ↦ λ e. shorter (eqb-false (prefix_len is_name_byte text) 0 e)
    ]) refl
  where
    shorter : prefix_len is_name_byte text ≢ 0 → length (drop (prefix_len is_name_byte text) text) < length text
    shorter h = omega (arith, h, length-drop (prefix_len is_name_byte text) text, prefix_len-le-length is_name_byte text)

if_alone_size : (text : List ℕ) (cut : List ℕ × List ℕ) → Cuts 1 text cut → IfSome (if_alone cut) (λ inner. length inner + 1 ≤ length text)
if_alone_size text cut h =
    elim (length (without_leading_space cut.1) == 0) as (λ t. IfSome (if t then Some cut.0 else None) (λ inner. length inner + 1 ≤ length text)) [
      | true ↦ omega (arith, h)
      | false ↦ tt
    ]

brace_content_size : (text : List ℕ) → IfSome (brace_content text) (λ inner. length inner + 2 ≤ length text)
brace_content_size [] = tt
brace_content_size (b ∷ text) =
    elim (b == 123) as (λ t. IfSome (if t then option_and_then if_alone (in_brace text) else None) (λ inner. length inner + 2 ≤ length (b ∷ text))) [
      | true ↦ and_then if_alone (in_brace text) _ (in_brace_size text) (λ cut h. some_more (if_alone cut) (if_alone_size text cut h))
      | false ↦ tt
    ]
  where
    some_more : (x : Option (List ℕ)) → IfSome x (λ inner. length inner + 1 ≤ length text) → IfSome x (λ inner. length inner + 2 ≤ length (b ∷ text))
    some_more None h = tt
    some_more (Some inner) h = omega (arith, h)

one_text_size : (text : List ℕ) → IfSome (one_text text) (λ one. length one ≤ length text)
one_text_size text =
    elim (begins_with_brace (without_leading_space text)) as (λ t. IfSome (if t then brace_content (without_leading_space text) else Some text) (λ one. length one ≤ length text)) [
      | true ↦ some_less (brace_content (without_leading_space text)) (brace_content_size (without_leading_space text))
      | false ↦ omega arith
    ]
  where
    some_less : (x : Option (List ℕ)) → IfSome x (λ inner. length inner + 2 ≤ length (without_leading_space text)) → IfSome x (λ one. length one ≤ length text)
    some_less None h = tt
    some_less (Some inner) h = omega (arith, h, space_size text)

second_text_size : (text : List ℕ) → IfSome (second_text text) (λ one. length one ≤ length text)
second_text_size [] = omega arith
second_text_size (b ∷ text) =
    elim (b == 58) as (λ t. IfSome (if t then brace_content (without_leading_space text) else None) (λ one. length one ≤ length (b ∷ text))) [
      | true ↦ some_less (brace_content (without_leading_space text)) (brace_content_size (without_leading_space text))
      | false ↦ tt
    ]
  where
    some_less : (x : Option (List ℕ)) → IfSome x (λ inner. length inner + 2 ≤ length (without_leading_space text)) → IfSome x (λ one. length one ≤ length (b ∷ text))
    some_less None h = tt
    some_less (Some inner) h = omega (arith, h, space_size text)

two_braces_size : (n text : List ℕ) (cut : List ℕ × List ℕ) → Cuts 1 text cut → IfSome (two_braces n cut) (λ p. size p ≤ suc (length text))
two_braces_size n text cut h =
    map_then (part.choice n cut.0) (second_text (without_leading_space cut.1)) _ (second_text_size (without_leading_space cut.1))
    (λ one le. omega (arith, h, le, space_size cut.1))

behind_brace_size : (n text : List ℕ) → IfSome (behind_brace n text) (λ p. size p ≤ length text)
behind_brace_size n [] = tt
behind_brace_size n (b ∷ text) = and_then (two_braces n) (in_brace text) _ (in_brace_size text) (λ cut h. two_braces_size n text cut h)

if_full_size : (n text : List ℕ) → IfSome (if_full n text) (λ p. size p ≤ length text + 2)
if_full_size n text =
    elim (begins_with_brace (without_leading_space text)) as (λ t. IfSome (if t then behind_brace n (without_leading_space text) else Some (part.choice n text [])) (λ p. size p ≤ length text + 2)) [
      | true ↦ some_less (behind_brace n (without_leading_space text)) (behind_brace_size n (without_leading_space text))
      | false ↦ omega arith
    ]
  where
    some_less : (x : Option Part) → IfSome x (λ p. size p ≤ length (without_leading_space text)) → IfSome x (λ p. size p ≤ length text + 2)
    some_less None h = tt
    some_less (Some p) h = omega (arith, h, space_size text)

if_empty_size : (n text : List ℕ) → IfSome (if_empty n text) (λ p. size p ≤ length text + 2)
if_empty_size n text = map_then (part.choice n []) (one_text text) _ (one_text_size text) (λ one le. omega (arith, le))

behind_name_size : (n text : List ℕ) → IfSome (behind_name n text) (λ p. size p ≤ length text + 1)
behind_name_size n [] = omega arith
behind_name_size n (b ∷ text) =
    elim (b == 63) as (λ t. IfSome (if t then if_full n text else if b == 58 then if_empty n text else None) (λ p. size p ≤ length (b ∷ text) + 1)) [
      | true ↦ some_same (if_full n text) (if_full_size n text)
      | false ↦ elim (b == 58) as (λ t. IfSome (if t then if_empty n text else None) (λ p. size p ≤ length (b ∷ text) + 1)) [
        | true ↦ some_same (if_empty n text) (if_empty_size n text)
        | false ↦ tt
      ]
    ]
  where
    some_same : (x : Option Part) → IfSome x (λ p. size p ≤ length text + 2) → IfSome x (λ p. size p ≤ length (b ∷ text) + 1)
    some_same None h = tt
    some_same (Some p) h = omega (arith, h)

braced_size : (text : List ℕ) → IfSome (braced text) (λ p. size p ≤ length text)
braced_size text =
    and_then with_name (name_before (without_leading_space text)) _ (name_before_size (without_leading_space text))
    (λ cut h. some_less (length (without_leading_space cut.1)) (behind_name cut.0 (without_leading_space cut.1)) (omega (arith, h, space_size text, space_size cut.1)) (behind_name_size cut.0 (without_leading_space cut.1)))
  where
    some_less : (m : ℕ) (x : Option Part) → m + 1 ≤ length text → IfSome x (λ p. size p ≤ m + 1) → IfSome x (λ p. size p ≤ length text)
    some_less m None le h = tt
    some_less m (Some p) le h = omega (arith, le, h)

parenthesised_size : (text : List ℕ) → IfSome (parenthesised text) (λ p. size p ≤ length text)
parenthesised_size text =
    elim (nat_lt 0 (length (trimmed text)) && list_all is_name_byte (trimmed text)) as (λ t. IfSome (if t then Some (part.name (trimmed text)) else None) (λ p. size p ≤ length text)) [
      | true ↦ omega arith
      | false ↦ tt
    ]

-- a part and what is after it are shorter than the text
abbrev pub Shorter : List ℕ → Part × List ℕ → Type 0
Shorter text cut = size cut.0 + length cut.1 < length text

form_before_size : (text : List ℕ) (content : List ℕ → Option Part) (cut : List ℕ × List ℕ) → ((inner : List ℕ) → IfSome (content inner) (λ p. size p ≤ length inner))
    → Cuts 1 text cut → IfSome (form_before content cut) (Shorter text)
form_before_size text content cut within h = map_then (before cut.1) (content cut.0) _ (within cut.0) (λ p le. omega (arith, le, h))

with_brace_size : (text : List ℕ) → IfSome (with_brace text) (Shorter text)
with_brace_size text = and_then (form_before braced) (in_brace text) _ (in_brace_size text) (λ cut h. form_before_size text braced cut braced_size h)

with_parenthesis_size : (text : List ℕ) → IfSome (with_parenthesis text) (Shorter text)
with_parenthesis_size text = and_then (form_before parenthesised) (in_parenthesis text) _ (in_parenthesis_size text) (λ cut h. form_before_size text parenthesised cut parenthesised_size h)

with_name_alone_size : (text : List ℕ) → IfSome (with_name_alone text) (Shorter text)
with_name_alone_size text = map_then (λ cut. (part.name cut.0, cut.1)) (name_before text) _ (name_before_size text) (λ cut h. omega (arith, h))

longer : (b : ℕ) (text : List ℕ) (x : Option (Part × List ℕ)) → IfSome x (Shorter text) → IfSome x (Shorter (b ∷ text))
longer b text None h = tt
longer b text (Some cut) h = omega (arith, h)

form_of_size : (text : List ℕ) → IfSome (form_of text) (λ cut. size cut.0 + length cut.1 ≤ length text)
unfolding form_of
form_of_size [] = tt
form_of_size (b ∷ text) =
    elim (b == 36) as (λ t. IfSome (if t then Some (part.literal (36 ∷ []), text) else if b == 123 then with_brace text else if b == 40 then with_parenthesis text else with_name_alone (b ∷ text)) (λ cut. size cut.0 + length cut.1 ≤ length (b ∷ text))) [
      | true ↦ omega arith
      | false ↦ elim (b == 123) as (λ t. IfSome (if t then with_brace text else if b == 40 then with_parenthesis text else with_name_alone (b ∷ text)) (λ cut. size cut.0 + length cut.1 ≤ length (b ∷ text))) [
        | true ↦ within (with_brace text) (longer b text (with_brace text) (with_brace_size text))
        | false ↦ elim (b == 40) as (λ t. IfSome (if t then with_parenthesis text else with_name_alone (b ∷ text)) (λ cut. size cut.0 + length cut.1 ≤ length (b ∷ text))) [
          | true ↦ within (with_parenthesis text) (longer b text (with_parenthesis text) (with_parenthesis_size text))
          | false ↦ within (with_name_alone (b ∷ text)) (with_name_alone_size (b ∷ text))
        ]
      ]
    ]
  where
    within : (x : Option (Part × List ℕ)) → IfSome x (Shorter (b ∷ text)) → IfSome x (λ cut. size cut.0 + length cut.1 ≤ length (b ∷ text))
    within None h = tt
    within (Some cut) h = omega (arith, h)

pub first_part_size : (text : List ℕ) → IfSome (first_part text) (Shorter text)
unfolding first_part
first_part_size [] = tt
first_part_size (b ∷ text) =
    (elim (b == 36) as (λ t. (b == 36) ≡ t → IfSome (if t then form_of text else Some (part.literal (take (plain_length (b ∷ text)) (b ∷ text)), drop (plain_length (b ∷ text)) (b ∷ text))) (Shorter (b ∷ text))) [
      | true ↦ λ e. within (form_of text) (form_of_size text)
      | false ↦ λ e. omega (arith, length-drop (plain_length (b ∷ text)) (b ∷ text), some_plain e)
    ]) refl
  where
    within : (x : Option (Part × List ℕ)) → IfSome x (λ cut. size cut.0 + length cut.1 ≤ length text) → IfSome x (Shorter (b ∷ text))
    within None h = tt
    within (Some cut) h = omega (arith, h)

    some_plain : (b == 36) ≡ false → 1 ≤ plain_length (b ∷ text)
    some_plain e = rw e (omega arith)
