-- Source routes and their lengths.
use Rattle.std.proofs.Common.{◌≡◌, ℕ, suc, ◌+◌, ◌<◌, ◌≤◌, Bool, eqb, ltb, List, [], ◌∷◌, ◌++◌, length, get_or, take, true, false, if◌then◌else◌, refl, ap, ◌∙◌, arith, length-append, length-take-le, lt-ltb, ltb-true}
use Rattle.std.specs.Prelude.{not, ◌&&◌, ◌||◌, nat_le, nat_lt}
use Rattle.std.specs.List.{list_all, onto_first, slice_split, before_first, position_or_len}
use Rattle.std.proofs.lemmas.Bool.{and_from, and_parts, and_right, eqb-true, not_from_false, not-true, or_left, or_right}
use Rattle.std.proofs.lemmas.List.{take_at, take_more, length-take-le}
use Rattle.std.proofs.lemmas.List.Folds.{list_all-append}
use Rattle.std.proofs.lemmas.List.Sums.{passes_at_first, prefix_len-le-length}
use Rattle.pf_addr.specs.Grammar.{IsRoute, none, domains, is_at_domain, is_name_byte, is_plain_byte, is_route}
use Rattle.pf_addr.specs.Clauses.Reading.{route_len}
use Rattle.pf_addr.proofs.ByteLemmas.{other, plain_is_no}
use Rattle.pf_addr.proofs.Cases.{either_way}
use Rattle.pf_addr.proofs.Runs.{all_weaker, run}

abbrev pub is_colon : ℕ → Bool
is_colon b = eqb b 58

abbrev pub is_comma : ℕ → Bool
is_comma b = eqb b 44

-- a byte of an at-domain
abbrev is_part_byte : ℕ → Bool
is_part_byte b = is_name_byte b || eqb b 64

abbrev is_route_byte : ℕ → Bool
is_route_byte b = is_part_byte b || eqb b 44

part_bytes : (part : List ℕ) → is_at_domain part ≡ true → list_all is_part_byte part ≡ true
unfolding is_at_domain
part_bytes [] h = refl
part_bytes (x ∷ xs) h =
    let parts = and_parts (eqb x 64 && nat_lt 0 (length xs) && nat_le (length xs) 255) (list_all is_name_byte xs) h in
    let first = and_parts (eqb x 64 && nat_lt 0 (length xs)) (nat_le (length xs) 255) parts.0 in
    let at = and_parts (eqb x 64) (nat_lt 0 (length xs)) first.0 in
    and_from (is_part_byte x) (list_all is_part_byte xs) (or_right (is_name_byte x) (eqb x 64) at.0)
    (all_weaker is_name_byte is_part_byte (λ b p. or_left (is_name_byte b) (eqb b 64) p) xs parts.1)

parts_bytes : (parts : List (List ℕ)) → list_all is_at_domain parts ≡ true → list_all (list_all is_part_byte) parts ≡ true
parts_bytes [] h = refl
parts_bytes (part ∷ parts) h =
    let two = and_parts (is_at_domain part) (list_all is_at_domain parts) h in
    and_from (list_all is_part_byte part) (list_all (list_all is_part_byte) parts) (part_bytes part two.0) (parts_bytes parts two.1)

onto_bytes : (x : ℕ) (parts : List (List ℕ)) → list_all (list_all is_part_byte) (onto_first x parts) ≡ true
    → (is_part_byte x ≡ true) × (list_all (list_all is_part_byte) parts ≡ true)
onto_bytes x [] h = ((and_parts (is_part_byte x) true (and_parts (is_part_byte x && true) true h).0).0, refl)
onto_bytes x (part ∷ parts) h =
    let two = and_parts (is_part_byte x && list_all is_part_byte part) (list_all (list_all is_part_byte) parts) h in
    let first = and_parts (is_part_byte x) (list_all is_part_byte part) two.0 in
    (first.0, and_from (list_all is_part_byte part) (list_all (list_all is_part_byte) parts) first.1 two.1)

split_bytes : (xs : List ℕ) → list_all (list_all is_part_byte) (slice_split is_comma xs) ≡ true → list_all is_route_byte xs ≡ true
split_bytes [] h = refl
split_bytes (x ∷ xs) h =
    either_way (eqb x 44)
    (λ comma. and_from (is_route_byte x) (list_all is_route_byte xs) (or_right (is_part_byte x) (eqb x 44) comma) (split_bytes xs (rw comma at h)))
    (λ no_comma.
    let two = onto_bytes x (slice_split is_comma xs) (rw no_comma at h) in
    and_from (is_route_byte x) (list_all is_route_byte xs) (or_left (is_part_byte x) (eqb x 44) two.0) (split_bytes xs two.1))

colon_fails : is_route_byte 58 ≡ false
unfolding is_name_byte
colon_fails = refl

-- no byte of a route is a colon
pub route_bytes : (route : List ℕ) → is_route route ≡ true → list_all (λ b. not (is_colon b)) route ≡ true
unfolding is_route
route_bytes route h =
    all_weaker is_route_byte (λ b. not (is_colon b)) (λ b p. not_from_false _ (other is_route_byte 58 b colon_fails p)) route
    (split_bytes route (parts_bytes (slice_split is_comma route) h))

close_fails : is_route_byte 62 ≡ false
unfolding is_name_byte
close_fails = refl

-- a route does not begin with a closing bracket
pub route_first : (route rest : List ℕ) → is_route route ≡ true → eqb (get_or (route ++ 58 ∷ rest) 0 0) 62 ≡ false
unfolding is_route
route_first [] rest h = refl
route_first (x ∷ xs) rest h =
    let all = split_bytes (x ∷ xs) (parts_bytes (slice_split is_comma (x ∷ xs)) h) in
    other is_route_byte 62 x close_fails (and_parts (is_route_byte x) (list_all is_route_byte xs) all).0

-- what is before the first such byte
pub before_at : (p : ℕ → Bool) (xs ys : List ℕ) (y : ℕ) → list_all (λ b. not (p b)) xs ≡ true → p y ≡ true → before_first p (xs ++ y ∷ ys) ≡ xs
before_at p xs ys y all is =
    let n = run (λ b. not (p b)) xs (y ∷ ys) all (ap not is) in
    rw n (take_at xs (y ∷ ys) (length xs) refl)

pub route_complete : (route rest : List ℕ) → is_route route ≡ true → route_len (route ++ 58 ∷ rest) ≡ length route + 1
unfolding route_len
route_complete route rest is =
    let before = before_at is_colon route rest 58 (route_bytes route is) refl in
    let lt : ltb (length route) (length (route ++ 58 ∷ rest)) ≡ true = lt-ltb _ _ (simp length-append (omega arith)) in
    rw (before, lt, is)

-- a route is at the head of a text, or none
pub record RouteAt (text : List ℕ) (n : ℕ) : Type 0 where
  pub within : n ≤ length text
  pub route : IsRoute (take n text)

route_at : (text : List ℕ) → length (before_first is_colon text) < length text → is_route (before_first is_colon text) ≡ true
    → RouteAt text (length (before_first is_colon text) + 1)
route_at text lt is =
    let before = before_first is_colon text in
    let len = length-take-le (position_or_len is_colon text) text (prefix_len-le-length (λ b. not (is_colon b)) text) in
    let place : position_or_len is_colon text < length text = omega (arith, len) in
    let colon : get_or text (position_or_len is_colon text) 0 ≡ 58 =
    eqb-true _ 58 (passes_at_first is_colon text 0 place) in
    let parts : take (length (before_first is_colon text) + 1) text ≡ before_first is_colon text ++ 58 ∷ [] =
    rw len (take_more text (position_or_len is_colon text) 0 place ∙ ap (λ b. before_first is_colon text ++ b ∷ []) colon) in
    record { within = omega (arith, lt); route = domains before is parts }

pub route_sound : (text : List ℕ) → RouteAt text (route_len text)
unfolding route_len
route_sound text =
    either_way (nat_lt (length (before_first is_colon text)) (length text) && is_route (before_first is_colon text))
    (λ both.
    let two = and_parts (nat_lt (length (before_first is_colon text)) (length text)) (is_route (before_first is_colon text)) both in
    rw both (route_at text (ltb-true _ _ two.0) two.1))
    (λ no. rw no (record { within = omega arith; route = none refl }))

-- a list of parts whose first one begins so
record Begins (prefix : List ℕ) (parts : List (List ℕ)) : Type 0 where
  pub rest : List ℕ
  pub others : List (List ℕ)
  pub is : parts ≡ (prefix ++ rest) ∷ others

split_some : (xs : List ℕ) → Begins [] (slice_split is_comma xs)
split_some [] = record { rest = []; others = []; is = refl }
split_some (x ∷ xs) =
    either_way (eqb x 44)
    (λ comma. record { rest = []; others = slice_split is_comma xs; is = rw comma })
    (λ no_comma. let next = split_some xs in record { rest = x ∷ next.rest; others = next.others; is = rw (no_comma, next.is) })

more_begins : (x : ℕ) (prefix : List ℕ) (parts : List (List ℕ)) → eqb x 44 ≡ false → Begins prefix parts
    → Begins (x ∷ prefix) (if eqb x 44 then [] ∷ parts else onto_first x parts)
more_begins x prefix parts no_comma b =
    record { rest = b.rest; others = b.others; is = rw no_comma (ap (onto_first x) b.is) }

split_begins : (prefix xs : List ℕ) → list_all (λ b. not (is_comma b)) prefix ≡ true → Begins prefix (slice_split is_comma (prefix ++ xs))
split_begins [] xs all = split_some xs
split_begins (x ∷ prefix) xs all =
    let parts = and_parts (not (is_comma x)) (list_all (λ b. not (is_comma b)) prefix) all in
    more_begins x prefix (slice_split is_comma (prefix ++ xs)) (not-true (eqb x 44) parts.0) (split_begins prefix xs parts.1)

before_more : (p : ℕ → Bool) (prefix xs : List ℕ) → list_all (λ b. not (p b)) prefix ≡ true → before_first p (prefix ++ xs) ≡ prefix ++ before_first p xs
before_more p [] xs all = refl
before_more p (x ∷ prefix) xs all =
    let parts = and_parts (not (p x)) (list_all (λ b. not (p b)) prefix) all in
    let n = position_or_len p (prefix ++ xs) in
    let e : 1 + n ≡ suc n = omega arith in
    rw (not-true (p x) parts.0, e) (ap (λ l. x ∷ l) (before_more p prefix xs parts.1))

-- a text whose prefix has no colon and no comma and begins no at-domain begins with no route
pub no_route : (prefix xs : List ℕ) → list_all (λ b. not (is_colon b)) prefix ≡ true → list_all (λ b. not (is_comma b)) prefix ≡ true
    → ((rest : List ℕ) → is_at_domain (prefix ++ rest) ≡ false) → route_len (prefix ++ xs) ≡ 0
unfolding route_len is_route
no_route prefix xs colon comma never =
    let before = before_more is_colon prefix xs colon in
    let parts = split_begins prefix (before_first is_colon xs) comma in
    let fails : list_all is_at_domain (slice_split is_comma (before_first is_colon (prefix ++ xs))) ≡ false =
    rw (before, parts.is, never parts.rest) in
    let both = and_right (nat_lt (length (before_first is_colon (prefix ++ xs))) (length (prefix ++ xs)))
    (list_all is_at_domain (slice_split is_comma (before_first is_colon (prefix ++ xs)))) fails in
    rw both

-- no at-domain begins with another byte, or has two at signs
pub no_at_first : (x : ℕ) (xs : List ℕ) → eqb x 64 ≡ false → is_at_domain (x ∷ xs) ≡ false
unfolding is_at_domain
no_at_first x xs h = rw h

pub at_within : (xs ys : List ℕ) → is_at_domain (64 ∷ (xs ++ 64 ∷ ys)) ≡ false
unfolding is_at_domain is_name_byte
at_within xs ys =
    let fails : list_all is_name_byte (xs ++ 64 ∷ ys) ≡ false =
    list_all-append is_name_byte xs (64 ∷ ys) ∙ and_right (list_all is_name_byte xs) (list_all is_name_byte (64 ∷ ys)) refl in
    and_right (nat_lt 0 (length (xs ++ 64 ∷ ys)) && nat_le (length (xs ++ 64 ∷ ys)) 255) (list_all is_name_byte (xs ++ 64 ∷ ys)) fails

colon_is_not_plain : is_plain_byte 58 ≡ false
unfolding is_plain_byte
colon_is_not_plain = refl

comma_is_not_plain : is_plain_byte 44 ≡ false
unfolding is_plain_byte
comma_is_not_plain = refl

pub plain_no_colon : (b : ℕ) → is_plain_byte b ≡ true → not (is_colon b) ≡ true
plain_no_colon b h = not_from_false (eqb b 58) (plain_is_no 58 b colon_is_not_plain h)

pub plain_no_comma : (b : ℕ) → is_plain_byte b ≡ true → not (is_comma b) ≡ true
plain_no_comma b h = not_from_false (eqb b 44) (plain_is_no 44 b comma_is_not_plain h)
