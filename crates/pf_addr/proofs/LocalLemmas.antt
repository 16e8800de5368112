-- Local parts, their lengths and what they mean.
use Rattle.std.proofs.Common.{◌≡◌, ℕ, suc, ◌+◌, ◌-◌, ◌<◌, ◌≤◌, Bool, eqb, List, [], ◌∷◌, ◌++◌, Some, length, get_or, take, true, false, refl, sym, ap, ◌∙◌, append_assoc, arith, length-append, length-take-le}
use Rattle.std.specs.List.{list_all, prefix_len}
use Rattle.std.proofs.lemmas.Bool.{and_from, and_parts, eqb-true, eqb-false, ne_eqb}
use Rattle.std.proofs.lemmas.List.{get_or-take, take_at, take_more}
use Rattle.std.proofs.lemmas.List.Folds.{list_all-append}
use Rattle.std.proofs.lemmas.List.Sums.{prefix_len-le-length}
use Rattle.pf_addr.specs.Grammar.{IsContent, IsDomain, IsLocalPart, name, literal, plain, quoted, is_lone_byte, is_name_byte, is_plain_byte}
use Rattle.pf_addr.specs.Clauses.Quoted.{closing_quote, unquoted}
use Rattle.pf_addr.specs.Clauses.Reading.{behind_at, content_of, local_len, local_of, plain_len}
use Rattle.pf_addr.proofs.AtLemmas.{is_other, at_none, at_there, behind_at-append, none_at}
use Rattle.pf_addr.proofs.ByteLemmas.{lone_is_no_at, lone_is_plain, name_is_no_at, name_is_plain, plain_is_lone, plain_is_no}
use Rattle.pf_addr.proofs.Cases.{either_way, either_option}
use Rattle.pf_addr.proofs.QuotedLemmas.{closed_at, closes, means}
use Rattle.pf_addr.proofs.Runs.{all_weaker, first_passes, run, run_passes}

quote_is_not_plain : is_plain_byte 34 ≡ false
unfolding is_plain_byte
quote_is_not_plain = refl

backslash_is_not_plain : is_plain_byte 92 ≡ false
unfolding is_plain_byte
backslash_is_not_plain = refl

bracket_is_not_plain : is_plain_byte 91 ≡ false
unfolding is_plain_byte
bracket_is_not_plain = refl

at_is_plain : is_plain_byte 64 ≡ true
unfolding is_plain_byte
at_is_plain = refl

-- the first of plain bytes is no quote
no_quote : (local rest : List ℕ) → 0 < length local → list_all is_plain_byte local ≡ true → eqb (get_or (local ++ rest) 0 0) 34 ≡ false
no_quote local rest some all = plain_is_no 34 _ quote_is_not_plain (first_passes is_plain_byte local rest some all)

-- plain bytes mean themselves
plain_stays : (local : List ℕ) → list_all is_plain_byte local ≡ true → unquoted false local ≡ local
plain_stays [] all = refl
plain_stays (b ∷ local) all =
    let parts = and_parts (is_plain_byte b) (list_all is_plain_byte local) all in
    rw (plain_is_no 92 b backslash_is_not_plain parts.0) (ap (λ l. b ∷ l) (plain_stays local parts.1))

quoted_meant : (content local : List ℕ) → IsContent content local → local_of (34 ∷ content ++ 34 ∷ []) ≡ local
unfolding local_of content_of
quoted_meant content local is =
    let len : suc (length (content ++ 34 ∷ [])) - 2 ≡ length content = simp length-append (omega arith) in
    rw (len, take_at content (34 ∷ []) (length content) refl) (means is)

pub local_meant : (is_byte : ℕ → Bool) (spelled local : List ℕ) → ((b : ℕ) → is_byte b ≡ true → is_plain_byte b ≡ true) → IsLocalPart is_byte spelled local
    → local_of spelled ≡ local
unfolding local_of content_of
local_meant is_byte [] local weaker (plain some all is) = is
local_meant is_byte (b ∷ spelled) local weaker (plain some all is) =
    let passes = all_weaker is_byte is_plain_byte weaker (b ∷ spelled) (rw (← is) at all) in
    let first = no_quote (b ∷ spelled) [] (omega arith) passes in
    rw first (plain_stays (b ∷ spelled) passes ∙ is)
local_meant is_byte spelled local weaker (quoted content inside is) = ap local_of is ∙ quoted_meant content local inside

pub local_some : (is_byte : ℕ → Bool) (spelled local : List ℕ) → IsLocalPart is_byte spelled local → 0 < length spelled
local_some is_byte spelled local (plain some all is) = rw is some
local_some is_byte spelled local (quoted content inside is) = rw is (omega arith)

quoted_whole : (content local rest : List ℕ) → IsContent content local → local_len ((34 ∷ content ++ 34 ∷ []) ++ rest) ≡ length (34 ∷ content ++ 34 ∷ [])
unfolding local_len
quoted_whole content local rest is =
    let whole : (content ++ 34 ∷ []) ++ rest ≡ content ++ 34 ∷ rest = append_assoc content (34 ∷ []) rest in
    rw (whole, closes is rest) (simp length-append (omega arith))

-- plain bytes up to the last at sign among them
plain_before : (local prefix tail : List ℕ) → list_all is_plain_byte local ≡ true → list_all is_plain_byte prefix ≡ true → list_all is_other prefix ≡ true
    → is_plain_byte (get_or tail 0 0) ≡ false → plain_len (local ++ 64 ∷ (prefix ++ tail)) ≡ length local
unfolding plain_len
plain_before local prefix tail all more none ends =
    let whole : local ++ 64 ∷ (prefix ++ tail) ≡ (local ++ 64 ∷ prefix) ++ tail = sym (append_assoc local (64 ∷ prefix) tail) in
    let passes : list_all is_plain_byte (local ++ 64 ∷ prefix) ≡ true =
    rw (list_all-append is_plain_byte local (64 ∷ prefix), all, at_is_plain, more) in
    let at : behind_at (local ++ 64 ∷ prefix) ≡ length local + 1 = rw (behind_at-append local (64 ∷ prefix), none_at prefix none) in
    let some : eqb (length local + 1) 0 ≡ false = ne_eqb _ 0 (λ e. omega (arith, e)) in
    rw (whole, run is_plain_byte (local ++ 64 ∷ prefix) tail passes ends, take_at (local ++ 64 ∷ prefix) tail _ refl, at, some) (omega arith)

plain_alone : (local rest : List ℕ) → list_all is_plain_byte local ≡ true → list_all is_other local ≡ true
    → is_plain_byte (get_or rest 0 0) ≡ false → plain_len (local ++ rest) ≡ length local
unfolding plain_len
plain_alone local rest all none ends =
    rw (run is_plain_byte local rest all ends, take_at local rest _ refl, none_at local none)

before_domain : (local domain rest : List ℕ) → list_all is_plain_byte local ≡ true → IsDomain domain → is_plain_byte (get_or rest 0 0) ≡ false
    → plain_len (local ++ 64 ∷ (domain ++ rest)) ≡ length local
before_domain local domain rest all (name some names limit) ends =
    plain_before local domain rest all (all_weaker is_name_byte is_plain_byte name_is_plain domain names)
    (all_weaker is_name_byte is_other name_is_no_at domain names) ends
before_domain local domain rest all (literal inside in_literal is limit) ends =
    rw is (plain_before local [] ((91 ∷ inside ++ 93 ∷ []) ++ rest) all refl refl bracket_is_not_plain)

unquoted_len : (local rest : List ℕ) → 0 < length local → list_all is_plain_byte local ≡ true → local_len (local ++ rest) ≡ plain_len (local ++ rest)
unfolding local_len
unquoted_len local rest some all = rw (no_quote local rest some all)

-- a local part before a domain
pub local_before : (spelled local domain rest : List ℕ) → IsLocalPart is_plain_byte spelled local → IsDomain domain → is_plain_byte (get_or rest 0 0) ≡ false
    → local_len (spelled ++ 64 ∷ (domain ++ rest)) ≡ length spelled
local_before spelled local domain rest (plain some all is) domain_is ends =
    rw is (unquoted_len local _ some all ∙ before_domain local domain rest all domain_is ends)
local_before spelled local domain rest (quoted content inside is) domain_is ends = rw is (quoted_whole content local _ inside)

-- a local part that no domain follows
pub local_alone : (spelled local rest : List ℕ) → IsLocalPart is_lone_byte spelled local → is_plain_byte (get_or rest 0 0) ≡ false
    → local_len (spelled ++ rest) ≡ length spelled
local_alone spelled local rest (plain some all is) ends =
    let passes = all_weaker is_lone_byte is_plain_byte lone_is_plain local all in
    rw is (unquoted_len local rest some passes ∙ plain_alone local rest passes (all_weaker is_lone_byte is_other lone_is_no_at local all) ends)
local_alone spelled local rest (quoted content inside is) ends = rw is (quoted_whole content local rest inside)

-- a local part is at the head of a text, and alone where no at sign is after it
pub record LocalAt (text : List ℕ) (n : ℕ) : Type 0 where
  pub within : n ≤ length text
  pub before : IsLocalPart is_plain_byte (take n text) (local_of (take n text))
  pub alone : eqb (get_or text n 0) 64 ≡ false → IsLocalPart is_lone_byte (take n text) (local_of (take n text))

quoted_at : (xs : List ℕ) (n : ℕ) → closing_quote false xs ≡ Some n → LocalAt (34 ∷ xs) (n + 2)
quoted_at xs n is =
    let there = closed_at false xs n is in
    let e : n + 2 ≡ suc (n + 1) = omega arith in
    let parts : take (n + 2) (34 ∷ xs) ≡ 34 ∷ take n xs ++ 34 ∷ [] =
    rw e (ap (λ l. 34 ∷ l) (take_more xs n 0 there.within ∙ ap (λ b. take n xs ++ b ∷ []) there.quote)) in
    let meant = ap local_of parts ∙ quoted_meant (take n xs) _ there.content in
    record {
      within = omega (arith, there.within);
      before = rw meant (quoted (take n xs) there.content parts);
      alone = λ no_at. rw meant (quoted (take n xs) there.content parts);
    }

all_lone : (xs : List ℕ) → list_all is_plain_byte xs ≡ true → list_all is_other xs ≡ true → list_all is_lone_byte xs ≡ true
all_lone [] all none = refl
all_lone (x ∷ xs) all none =
    let plains = and_parts (is_plain_byte x) (list_all is_plain_byte xs) all in
    let others = and_parts (is_other x) (list_all is_other xs) none in
    and_from (is_lone_byte x) (list_all is_lone_byte xs) (plain_is_lone x plains.0 others.0) (all_lone xs plains.1 others.1)

unquoted_meant : (text : List ℕ) (n : ℕ) → 0 < n → eqb (get_or text 0 0) 34 ≡ false → list_all is_plain_byte (take n text) ≡ true
    → local_of (take n text) ≡ take n text
unfolding local_of content_of
unquoted_meant text n some h all = rw (get_or-take n text 0 0 some, h) (plain_stays (take n text) all)

plain_at : (text : List ℕ) (n : ℕ) → eqb (get_or text 0 0) 34 ≡ false → 0 < n → n ≤ prefix_len is_plain_byte text
    → (eqb (get_or text n 0) 64 ≡ false → list_all is_other (take n text) ≡ true) → LocalAt text n
plain_at text n h some within others =
    let fits : n ≤ length text = omega (arith, prefix_len-le-length is_plain_byte text) in
    let len = length-take-le n text fits in
    let full : 0 < length (take n text) = omega (arith, len) in
    let passes = run_passes is_plain_byte text n within in
    let meant = unquoted_meant text n some h passes in
    record {
      within = fits;
      before = rw meant (plain full passes refl);
      alone = λ no_at. rw meant (plain full (all_lone _ passes (others no_at)) refl);
    }

plain_sound : (text : List ℕ) → eqb (get_or text 0 0) 34 ≡ false → 0 < plain_len text → LocalAt text (plain_len text)
unfolding plain_len
plain_sound text h some =
    let n = prefix_len is_plain_byte text in
    either_way (eqb (behind_at (take n text)) 0)
    (λ none. rw none (plain_at text n h (rw none at some) (omega arith) (λ no_at. at_none (take n text) none)))
    (λ has.
    let there = at_there (take n text) has in
    let len = length-take-le n text (prefix_len-le-length is_plain_byte text) in
    let at : ℕ = behind_at (take n text) in
    let is : get_or text (behind_at (take n text) - 1) 0 ≡ 64 =
    sym (get_or-take n text (behind_at (take n text) - 1) 0 (omega (arith, there.some, there.within, len))) ∙ there.at in
    rw has (plain_at text (behind_at (take n text) - 1) h (rw has at some) (omega (arith, there.within, len)) (λ no_at. absurd (eqb-false _ 64 no_at is))))

pub local_sound : (text : List ℕ) → 0 < local_len text → LocalAt text (local_len text)
unfolding local_len plain_len
local_sound [] some = absurd (omega arith)
local_sound (x ∷ xs) some =
    either_way (eqb x 34)
    (λ quote. either_option (closing_quote false xs)
    (λ none. absurd (let f : 0 < 0 = rw (quote, none) at some in omega (arith, f)))
    (λ n is. let e = eqb-true x 34 quote in rw (quote, is, e) (quoted_at xs n is)))
    (λ h. rw h (plain_sound (x ∷ xs) h (rw h at some)))
