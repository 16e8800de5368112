-- Values of names by levels: none is above the limit, and one that is there stays with more levels.
use Rattle.std.proofs.Common.{◌≡◌, ℕ, ◌+◌, ◌≤◌, ◌++◌, zero, suc, Bool, true, false, nat_lt, List, [], ◌∷◌, length, Ok, Err, Option, None, Some, refl, sym, ap, ◌∙◌, subst, arith, if◌then◌else◌}
use Rattle.std.proofs.lemmas.Bool.{ltb-true, ltb-false}
use Rattle.std.proofs.lemmas.List.{length-drop}
use Rattle.std.specs.List.{position}
use Rattle.pf_base.specs.declared.meaning.Meaning.TheVariants.{Is, DomainOf}
use Rattle.pf_expand.proofs.SizeLaws.{Limited}
use Rattle.pf_expand.specs.Expansion.{Answer, content, joined, length_limit, within_limit}
use Rattle.pf_expand.specs.Clauses.Meanings.{Kept, level_value, meaning_of, meaning_value}
use Rattle.pf_expand.specs.Names.{domain_in, domain_of, past_dot}
use Rattle.pf_expand.specs.Clauses.Runs.{added, behind, behind_choice, choice_name, flaw_alone, run}
use Rattle.pf_expand.specs.declared.flaw.Flaw.TheVariants.{TooLong}
use Rattle.pf_expand.specs.declared.run.Mode.{Mode}
use Rattle.pf_expand.specs.declared.run.Mode.TheVariants.{Counts, ToOtherwise, ToEnd}
use Rattle.pf_expand.specs.declared.token.Token.{Token}
use Rattle.pf_expand.specs.declared.token.Token.TheVariants.{Literal, Name, Choose, Otherwise, End}

fits : (bytes : List ℕ) → within_limit (Ok bytes) ≡ Ok bytes → length bytes ≤ length_limit
fits bytes h =
    (elim (nat_lt length_limit (length bytes)) as (λ t. nat_lt length_limit (length bytes) ≡ t → (if t then Err TooLong else Ok bytes) ≡ Ok bytes → length bytes ≤ length_limit) [
      | true ↦ λ p e. cc
      | false ↦ λ p e. omega (arith, ltb-false length_limit (length bytes) p)
    ]) refl h

fitting : (bytes : List ℕ) → length bytes ≤ length_limit → within_limit (Ok bytes) ≡ Ok bytes
fitting bytes h =
    (elim (nat_lt length_limit (length bytes)) as (λ t. nat_lt length_limit (length bytes) ≡ t → (if t then Err TooLong else Ok bytes) ≡ Ok bytes) [
      | true ↦ λ p. absurd (omega (arith, h, ltb-true length_limit (length bytes) p))
      | false ↦ λ p. refl
    ]) refl

limit_twice : (x : Answer) → within_limit (within_limit x) ≡ within_limit x
limit_twice (Ok bytes) =
    (elim (nat_lt length_limit (length bytes)) as (λ t. nat_lt length_limit (length bytes) ≡ t → within_limit (if t then Err TooLong else Ok bytes) ≡ (if t then Err TooLong else Ok bytes)) [
      | true ↦ λ p. refl
      | false ↦ λ p. ap (λ t. if t then Err TooLong else Ok bytes) p
    ]) refl
limit_twice (Err flaw) = refl

domain_fits : (host : List ℕ) (x : Option ℕ) → length host ≤ length_limit → length (past_dot host x) ≤ length_limit
domain_fits host None h = omega arith
domain_fits host (Some place) h = omega (arith, h, length-drop (place + 1) host)

domain_limit : (x : Answer) → within_limit x ≡ x → within_limit (domain_of x) ≡ domain_of x
domain_limit (Ok host) h = fitting (domain_in host) (domain_fits host (position _ host) (fits host h))
domain_limit (Err flaw) h = refl

meaning_limit : (values : List ℕ → Answer) (m : Kept) → Limited values → within_limit (meaning_value values m) ≡ meaning_value values m
meaning_limit values (Is (Some tokens)) limited = limit_twice (run values Counts tokens)
meaning_limit values (Is None) limited = refl
meaning_limit values (DomainOf name) limited = domain_limit (values name) (limited name)

-- no value is above the limit
pub level_limit : (names : List (List ℕ × Kept)) (n : ℕ) → Limited (level_value names n)
unfolding level_value
level_limit names zero name = refl
level_limit names (suc n) name = meaning_limit (level_value names n) (meaning_of names name) (level_limit names n)

-- the values of the one are values of the other
abbrev pub Extends : (List ℕ → Answer) → (List ℕ → Answer) → Type 0
Extends v w = (name : List ℕ) (bytes : List ℕ) → v name ≡ Ok bytes → w name ≡ Ok bytes

-- both of two values are there, where they are there together
pub record Both (x y : Answer) (bytes : List ℕ) : Type 0 where
  pub first : List ℕ
  pub second : List ℕ
  pub x_is : x ≡ Ok first
  pub y_is : y ≡ Ok second
  pub bytes_is : bytes ≡ first ++ second

pub both : (x y : Answer) (bytes : List ℕ) → joined x y ≡ Ok bytes → Both x y bytes
both (Ok a) (Ok b) bytes e = record { first = a; second = b; x_is = refl; y_is = refl; bytes_is = sym (ap content e) }
both (Ok a) (Err g) bytes e = cc
both (Err f) (Ok b) bytes e = cc
both (Err f) (Err g) bytes e = cc

-- what a piece adds is the same, and so is what counts after it
pub record Alike (v w : List ℕ → Answer) (mode : Mode) (token : Token) : Type 0 where
  pub adds : added w mode token ≡ added v mode token
  pub behind_it : behind (behind_choice (w (choice_name token))) mode token ≡ behind (behind_choice (v (choice_name token))) mode token

flaw_ok : (x : Answer) (bytes : List ℕ) → flaw_alone x ≡ Ok bytes → (y : List ℕ) × (x ≡ Ok y)
flaw_ok (Ok y) bytes e = (y, refl)
flaw_ok (Err f) bytes e = cc

pub alike : (v w : List ℕ → Answer) → Extends v w → (mode : Mode) (token : Token) (bytes : List ℕ) → added v mode token ≡ Ok bytes → Alike v w mode token
alike v w more (ToOtherwise n) token bytes e = record { adds = refl; behind_it = refl }
alike v w more (ToEnd n) token bytes e = record { adds = refl; behind_it = refl }
alike v w more Counts (Literal b) bytes e = record { adds = refl; behind_it = refl }
alike v w more Counts (Name name) bytes e = record { adds = more name bytes e ∙ sym e; behind_it = refl }
alike v w more Counts (Choose name) bytes e =
    let y = flaw_ok (v name) bytes e in
    record {
      adds = ap flaw_alone (more name y.0 y.1 ∙ sym y.1);
      behind_it = ap behind_choice (more name y.0 y.1 ∙ sym y.1);
    }
alike v w more Counts Otherwise bytes e = record { adds = refl; behind_it = refl }
alike v w more Counts End bytes e = record { adds = refl; behind_it = refl }

run_extends : (v w : List ℕ → Answer) → Extends v w → (mode : Mode) (tokens : List Token) (bytes : List ℕ) → run v mode tokens ≡ Ok bytes → run w mode tokens ≡ Ok bytes
run_extends v w more mode [] bytes e = e
run_extends v w more mode (token ∷ tokens) bytes e =
    let rest = run v (behind (behind_choice (v (choice_name token))) mode token) tokens in
    let parts = both (added v mode token) rest bytes e in
    let same = alike v w more mode token parts.first parts.x_is in
    let behind_it = run_extends v w more (behind (behind_choice (v (choice_name token))) mode token) tokens parts.second parts.y_is in
    ap (λ x. joined x (run w (behind (behind_choice (w (choice_name token))) mode token) tokens)) same.adds
    ∙ ap (λ m. joined (added v mode token) (run w m tokens)) same.behind_it
    ∙ ap (joined (added v mode token)) (behind_it ∙ sym parts.y_is) ∙ e

limit_ok : (x : Answer) (bytes : List ℕ) → within_limit x ≡ Ok bytes → x ≡ Ok bytes
limit_ok (Ok b) bytes h =
    (elim (nat_lt length_limit (length b)) as (λ t. unless_long t b ≡ Ok bytes → unless_long false b ≡ Ok bytes) [
      | true ↦ λ e. cc
      | false ↦ λ e. e
    ]) h
  where
    unless_long : Bool → List ℕ → Answer
    unless_long t b = if t then Err TooLong else Ok b
limit_ok (Err f) bytes h = cc

meaning_extends : (v w : List ℕ → Answer) → Extends v w → (m : Kept) (bytes : List ℕ) → meaning_value v m ≡ Ok bytes → meaning_value w m ≡ Ok bytes
meaning_extends v w more (Is (Some tokens)) bytes e =
    ap within_limit (run_extends v w more Counts tokens bytes (limit_ok (run v Counts tokens) bytes e) ∙ sym (limit_ok (run v Counts tokens) bytes e)) ∙ e
meaning_extends v w more (Is None) bytes e = e
meaning_extends v w more (DomainOf name) bytes e =
    let host = domain_ok (v name) bytes e in
    ap domain_of (more name host.0 host.1 ∙ sym host.1) ∙ e
  where
    domain_ok : (x : Answer) (bytes : List ℕ) → domain_of x ≡ Ok bytes → (y : List ℕ) × (x ≡ Ok y)
    domain_ok (Ok y) bytes e = (y, refl)
    domain_ok (Err f) bytes e = cc

-- one level more
pub level_more : (names : List (List ℕ × Kept)) (n : ℕ) → Extends (level_value names n) (level_value names (suc n))
unfolding level_value
level_more names zero name bytes e = cc
level_more names (suc n) name bytes e = meaning_extends (level_value names n) (level_value names (suc n)) (level_more names n) (meaning_of names name) bytes e

-- and as many as there are
pub level_extends : (names : List (List ℕ × Kept)) (n k : ℕ) → Extends (level_value names n) (level_value names (n + k))
level_extends names n zero name bytes e = subst (λ m. level_value names m name ≡ Ok bytes) (none n) e where
  none : (n : ℕ) → n ≡ n + 0
  none n = omega arith
level_extends names n (suc k) name bytes e =
    subst (λ m. level_value names m name ≡ Ok bytes) (one n k) (level_more names (n + k) name bytes (level_extends names n k name bytes e))
  where
    one : (n k : ℕ) → suc (n + k) ≡ n + suc k
    one n k = omega arith
