-- Quoted strings, as they are spelled and what they mean.
use Rattle.std.proofs.Common.{◌≡◌, ℕ, suc, ◌+◌, ◌<◌, ◌≤◌, Bool, eqb, List, [], ◌∷◌, ◌++◌, Some, length, get_or, take, true, false, refl, sym, ap, arith}
use Rattle.std.specs.Prelude.{◌==◌, ◌||◌}
use Rattle.std.specs.List.{flat_map, list_any}
use Rattle.std.specs.Option.{option_map}
use Rattle.std.proofs.lemmas.Bool.{eqb-true, ne_eqb, or_from, or_parts}
use Rattle.pf_addr.specs.Grammar.{IsContent, none, byte, pair}
use Rattle.pf_addr.specs.Printed.{escaped}
use Rattle.pf_addr.specs.Clauses.Quoted.{closing_quote, unquoted}
use Rattle.pf_addr.proofs.Cases.{either_way, either_option}

-- a quoted string ends at the quote after its content
pub closes : {content local : List ℕ} → IsContent content local → (rest : List ℕ) → closing_quote false (content ++ 34 ∷ rest) ≡ Some (length content)
closes none rest = refl
closes (byte b other more) rest =
    let parts = or_parts (eqb b 34) (eqb b 92) other in
    rw (parts.0, parts.1, closes more rest) (ap Some (omega arith))
closes (pair b more) rest = rw (closes more rest) (ap Some (omega arith))

-- and it means what the content means
pub means : {content local : List ℕ} → IsContent content local → unquoted false content ≡ local
means none = refl
means (byte b other more) = let parts = or_parts (eqb b 34) (eqb b 92) other in rw parts.1 (ap (λ bytes. b ∷ bytes) (means more))
means (pair b more) = ap (λ bytes. b ∷ bytes) (means more)

-- a text without a backslash means itself
pub stays : (text : List ℕ) → list_any (λ b. b == 92) text ≡ false → unquoted false text ≡ text
stays [] h = refl
stays (b ∷ text) h =
    let parts = or_parts (b == 92) (list_any (λ b. b == 92) text) h in
    rw parts.0 (ap (λ l. b ∷ l) (stays text parts.1))

-- content of two bytes means one at least
pub longer_means : (text : List ℕ) → 2 ≤ length text → false ≡ (length (unquoted false text) == 0)
longer_means [] long = absurd (omega arith)
longer_means (b ∷ []) long = absurd (omega arith)
longer_means (b ∷ c ∷ text) long =
    either_way (b == 92)
    (λ slash. rw slash (sym (ne_eqb _ 0 (λ e. omega (arith, e)))))
    (λ other. rw other (sym (ne_eqb _ 0 (λ e. omega (arith, e)))))

-- content after a backslash or not
abbrev IsContentBehind : Bool → List ℕ → List ℕ → Type 0
IsContentBehind true text local = IsContent (92 ∷ text) local
IsContentBehind false text local = IsContent text local

-- the first quote that no backslash takes is there, and content before it
pub record ClosesAt (taken : Bool) (text : List ℕ) (n : ℕ) : Type 0 where
  pub within : n < length text
  pub quote : get_or text n 0 ≡ 34
  pub content : IsContentBehind taken (take n text) (unquoted taken (take n text))

closes_more : (taken next : Bool) (b : ℕ) (text : List ℕ) (n : ℕ)
    → ((m : ℕ) → IsContentBehind next (take m text) (unquoted next (take m text)) → IsContentBehind taken (b ∷ take m text) (unquoted taken (b ∷ take m text)))
    → ((m : ℕ) → closing_quote next text ≡ Some m → ClosesAt next text m) → option_map (λ n. n + 1) (closing_quote next text) ≡ Some n → ClosesAt taken (b ∷ text) n
closes_more taken next b text n more behind h =
    either_option (closing_quote next text) (λ none. cc (rw none at h)) (λ m is.
    let there = behind m is in
    let e : suc m ≡ n = let s : Some (m + 1) ≡ Some n = rw is at h in let t : m + 1 ≡ n = cc in omega (arith, t) in
    rw (← e) (record { within = omega (arith, there.within); quote = there.quote; content = more m there.content }))

pub closed_at : (taken : Bool) (text : List ℕ) (n : ℕ) → closing_quote taken text ≡ Some n → ClosesAt taken text n
closed_at taken [] n h = cc
closed_at true (b ∷ text) n h = closes_more true false b text n (λ m content. pair b content) (λ m is. closed_at false text m is) h
closed_at false (b ∷ text) n h =
    either_way (eqb b 34)
    (λ quote. let e : 0 ≡ n = cc (rw quote at h) in rw (← e) (record { within = omega arith; quote = eqb-true b 34 quote; content = none }))
    (λ no_quote. either_way (eqb b 92)
    (λ slash. closes_more false true b text n
    (λ m content. rw (eqb-true b 92 slash) content)
    (λ m is. closed_at true text m is) (rw (no_quote, slash) at h))
    (λ no_slash. closes_more false false b text n
    (λ m content. rw no_slash (byte b (or_from (eqb b 34) (eqb b 92) no_quote no_slash) content))
    (λ m is. closed_at false text m is) (rw (no_quote, no_slash) at h)))

-- what is printed between quotes is content that means the local part
pub content_of : (local : List ℕ) → IsContent (flat_map escaped local) local
unfolding escaped
content_of [] = none
content_of (b ∷ local) =
    either_way (b == 34 || b == 92) (λ h. rw h (pair b (content_of local))) (λ h. rw h (byte b h (content_of local)))
