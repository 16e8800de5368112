-- Domains and their lengths.
use Rattle.std.proofs.Common.{◌≡◌, ℕ, suc, ◌+◌, ◌<◌, ◌≤◌, eqb, List, [], ◌∷◌, ◌++◌, length, get_or, take, true, false, refl, sym, ap, ◌∙◌, append_assoc, ⊎_elim, arith, length-append, length-take-le, le-leb, leb-true}
use Rattle.std.specs.List.{list_all, prefix_len}
use Rattle.std.specs.Prelude.{nat_le}
use Rattle.std.proofs.lemmas.Bool.{cases_lt, eqb-true, false_from_ne_true}
use Rattle.std.proofs.lemmas.List.{get_or_at, get_or_past, take_more}
use Rattle.std.proofs.lemmas.List.Sums.{prefix_len-le-length}
use Rattle.pf_addr.specs.Grammar.{IsDomain, name, literal, is_literal_byte, is_name_byte, is_plain_byte}
use Rattle.pf_addr.specs.Clauses.Reading.{domain_len, literal_len_of, unlimited_len}
use Rattle.pf_addr.proofs.ByteLemmas.{name_is_no_bracket, name_is_plain}
use Rattle.pf_addr.proofs.Cases.{either_way}
use Rattle.pf_addr.proofs.Runs.{first_passes, run, run_passes}

-- what is read is within the text, if it is not 0
pub read_within : (xs : List ℕ) (n c : ℕ) → get_or xs n 0 ≡ c → 0 < c → n < length xs
read_within xs n c at some =
    ⊎_elim (λ lt. lt) (λ past. let e : 0 ≡ c = sym (get_or_past xs n 0 past) ∙ at in absurd (omega (arith, e))) (cases_lt n (length xs))

-- a bracket is no byte of a literal
bracket_ends : is_literal_byte 93 ≡ false
unfolding is_literal_byte
bracket_ends = refl

literal_whole : (inside rest : List ℕ) → list_all is_literal_byte inside ≡ true
    → literal_len_of (inside ++ 93 ∷ rest) (prefix_len is_literal_byte (inside ++ 93 ∷ rest)) ≡ length inside + 2
literal_whole inside rest all =
    rw (run is_literal_byte inside (93 ∷ rest) all bracket_ends, get_or_at inside 93 rest 0 (length inside) refl)

-- the bytes of a name end where no plain byte is
pub name_ends : (rest : List ℕ) → is_plain_byte (get_or rest 0 0) ≡ false → is_name_byte (get_or rest 0 0) ≡ false
name_ends rest ends = false_from_ne_true _ (λ h. cc (ends, name_is_plain _ h))

pub domain_complete : (domain rest : List ℕ) → IsDomain domain → is_plain_byte (get_or rest 0 0) ≡ false → domain_len (domain ++ rest) ≡ length domain
unfolding domain_len
domain_complete domain rest (name some all limit) ends =
    let no_bracket = name_is_no_bracket (get_or (domain ++ rest) 0 0) (first_passes is_name_byte domain rest some all) in
    rw (no_bracket, run is_name_byte domain rest all (name_ends rest ends), le-leb (length domain) 255 limit)
domain_complete domain rest (literal inside all is limit) ends =
    let len : length inside + 2 ≡ length domain = rw is (simp length-append (omega arith)) in
    let whole : (inside ++ 93 ∷ []) ++ rest ≡ inside ++ 93 ∷ rest = append_assoc inside (93 ∷ []) rest in
    let n = literal_whole inside rest all ∙ len in
    ap (λ text. domain_len (text ++ rest)) is ∙ rw (whole, n, le-leb (length domain) 255 limit)

-- a domain is at the head of a text
pub record DomainAt (text : List ℕ) (n : ℕ) : Type 0 where
  pub within : n ≤ length text
  pub domain : IsDomain (take n text)

literal_at : (xs : List ℕ) (n : ℕ) → n ≤ prefix_len is_literal_byte xs → get_or xs n 0 ≡ 93 → n + 2 ≤ 255 → DomainAt (91 ∷ xs) (n + 2)
literal_at xs n run at limit =
    let within = read_within xs n 93 at (omega arith) in
    let e : n + 2 ≡ suc (n + 1) = omega arith in
    let parts : take (n + 2) (91 ∷ xs) ≡ 91 ∷ take n xs ++ 93 ∷ [] =
    rw e (ap (λ l. 91 ∷ l) (take_more xs n 0 within ∙ ap (λ b. take n xs ++ b ∷ []) at)) in
    let fits : n + 2 ≤ length (91 ∷ xs) = omega (arith, within) in
    let len = length-take-le (n + 2) (91 ∷ xs) fits in
    record { within = fits; domain = literal (take n xs) (run_passes is_literal_byte xs n run) parts (omega (arith, len)) }

name_at : (xs : List ℕ) → 0 < prefix_len is_name_byte xs → prefix_len is_name_byte xs ≤ 255 → DomainAt xs (prefix_len is_name_byte xs)
name_at xs some limit =
    let fits = prefix_len-le-length is_name_byte xs in
    let len = length-take-le (prefix_len is_name_byte xs) xs fits in
    record { within = fits; domain = name (omega (arith, len)) (run_passes is_name_byte xs _ (omega arith)) (omega (arith, len)) }

unlimited_sound : (text : List ℕ) → 0 < unlimited_len text → unlimited_len text ≤ 255 → DomainAt text (unlimited_len text)
unlimited_sound [] some limit = absurd (omega arith)
unlimited_sound (x ∷ xs) some limit =
    let m = prefix_len is_literal_byte xs in
    either_way (eqb x 91)
    (λ bracket. either_way (eqb (get_or xs m 0) 93)
    (λ at. let e = eqb-true x 91 bracket in rw (bracket, at, e) (literal_at xs m (omega arith) (eqb-true _ 93 at) (rw (bracket, at) at limit)))
    (λ unclosed. absurd (let f : 0 < 0 = rw (bracket, unclosed) at some in omega (arith, f))))
    (λ no_bracket. rw no_bracket (name_at (x ∷ xs) (rw no_bracket at some) (rw no_bracket at limit)))

pub domain_sound : (text : List ℕ) → 0 < domain_len text → DomainAt text (domain_len text)
unfolding domain_len
domain_sound text some =
    either_way (nat_le (unlimited_len text) 255)
    (λ within. rw within (unlimited_sound text (rw within at some) (leb-true _ 255 within)))
    (λ over. absurd (let f : 0 < 0 = rw over at some in omega (arith, f)))
