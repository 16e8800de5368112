-- The sizes of values with one level more.
use Rattle.std.proofs.Common.{◌≡◌, ℕ, ◌+◌, ◌≤◌, not, suc, Bool, true, false, nat_lt, List, [], ◌∷◌, length, get_or, map, Ok, Err, is_ok, Option, None, Some, refl, sym, ap, ◌∙◌, arith, cond, if◌then◌else◌}
use Rattle.std.proofs.lemmas.Bool.{ltb-false}
use Rattle.std.proofs.lemmas.List.{get_or-map}
use Rattle.std.proofs.lemmas.List.Quantifiers.{position-Some}
use Rattle.std.proofs.lemmas.Slice.Eq.{bytes_eq-Decides}
use Rattle.std.specs.List.{position_or_len}
use Rattle.std.specs.Map.{keys_of, lookup}
use Rattle.std.specs.Option.{unwrap_or}
use Rattle.std.specs.Str.{bytes_eq}
use Rattle.pf_base.specs.declared.meaning.Meaning.TheVariants.{Is}
use Rattle.pf_expand.proofs.LevelLaws.{level_limit}
use Rattle.pf_expand.proofs.SizeLaws.{run_size}
use Rattle.pf_expand.specs.Expansion.{Answer, content, length_limit, within_limit}
use Rattle.pf_expand.specs.Clauses.Levels.{AreSizes, size_at, size_named}
use Rattle.pf_expand.specs.Clauses.Meanings.{Kept, level_value, meaning_in, meaning_of, meaning_value, place_in}
use Rattle.pf_expand.specs.Names.{domain_in, domain_of}
use Rattle.pf_expand.specs.Clauses.Runs as runs
use Rattle.pf_expand.specs.Clauses.Sizes.{long, run, size_of}
use Rattle.pf_expand.specs.declared.flaw.Flaw.{Flaw}
use Rattle.pf_expand.specs.declared.flaw.Flaw.TheVariants.{TooDeep, TooLong}
use Rattle.pf_expand.specs.declared.lengths.Sizes.{Sizes}
use Rattle.pf_expand.specs.declared.run.Mode.TheVariants.{Counts}
use Rattle.pf_expand.specs.declared.size.Size.TheVariants.{Long, Flawed}
use Rattle.pf_expand.specs.declared.token.Token.{Token}

-- a value above the limit has the size of one that is too long
limited_alike : (x : Answer) → size_of (within_limit x) ≡ size_of x
limited_alike (Ok bytes) =
    (elim (nat_lt length_limit (length bytes)) as (λ t. nat_lt length_limit (length bytes) ≡ t → size_of (unless_long t bytes) ≡ size_of (Ok bytes)) [
      | true ↦ λ p. sym (ap (λ t. if t then Flawed TooLong else Long (length bytes)) p)
      | false ↦ λ p. refl
    ]) refl
  where
    unless_long : Bool → List ℕ → Answer
    unless_long t b = if t then Err TooLong else Ok b
limited_alike (Err flaw) = refl

-- the size of a text in its pieces
pub text_size : (names : List (List ℕ × Kept)) (sizes : Sizes) (tokens : List Token) → AreSizes names sizes
    → run (size_named names sizes) Counts tokens ≡ size_of (within_limit (runs.run (level_value names sizes.levels) Counts tokens))
text_size names sizes tokens are =
    run_size (level_value names sizes.levels) (size_named names sizes) are (level_limit names sizes.levels) Counts tokens
    ∙ sym (limited_alike (runs.run (level_value names sizes.levels) Counts tokens))

-- a name with a length has a value
pub long_there : (x : Answer) (n : ℕ) → Long n ≡ size_of x → is_ok x ≡ true
long_there (Ok bytes) n e = refl
long_there (Err flaw) n e = cc

pub flawed_there : (x : Answer) (flaw : Flaw) → within_limit x ≡ x → Flawed flaw ≡ size_of x → Flawed flaw ≡ size_of (domain_of x)
flawed_there (Ok bytes) flaw h e =
    (elim (nat_lt length_limit (length bytes)) as (λ t. unless_long t bytes ≡ Ok bytes → Flawed flaw ≡ (if t then Flawed TooLong else Long (length bytes)) → Flawed flaw ≡ size_of (domain_of (Ok bytes))) [
      | true ↦ λ k p. cc
      | false ↦ λ k p. cc
    ]) h e
  where
    unless_long : Bool → List ℕ → Answer
    unless_long t b = if t then Err TooLong else Ok b
flawed_there (Err g) flaw h e = e

pub domain_size_of : (x : Answer) → is_ok x ≡ true → long (length (domain_in (content x))) ≡ size_of (domain_of x)
domain_size_of (Ok bytes) h = refl
domain_size_of (Err flaw) h = cc

-- a name with one level more
pub next_value : (names : List (List ℕ × Kept)) (n : ℕ) (name : List ℕ) → level_value names (n + 1) name ≡ meaning_value (level_value names n) (meaning_of names name)
unfolding level_value
next_value names n name = ap (λ m. level_value names m name) (one n) where
  one : (n : ℕ) → n + 1 ≡ suc n
  one n = omega arith

pub next_meaning : (names : List (List ℕ × Kept)) (n : ℕ) (name : List ℕ) (x : Option Kept) → meaning_in names name ≡ x
    → level_value names (n + 1) name ≡ meaning_value (level_value names n) (unwrap_or x (Is (Some [])))
next_meaning names n name x is = next_value names n name ∙ ap (λ m. meaning_value (level_value names n) (unwrap_or m (Is (Some [])))) is

-- a name that was not set
lookup_none : (test : List ℕ → Bool) (names : List (List ℕ × Kept)) → length (keys_of names) ≤ position_or_len test (keys_of names) → lookup test names ≡ None
lookup_none test [] h = refl
lookup_none test (entry ∷ names) h =
    (elim (test entry.0) as (λ t. suc (length (keys_of names)) ≤ cond (not t) (1 + position_or_len test (keys_of names)) 0 → cond t (Some entry.1) (lookup test names) ≡ None) [
      | true ↦ λ e. absurd (omega (arith, e))
      | false ↦ λ e. lookup_none test names (omega (arith, e))
    ]) h

not_set : (names : List (List ℕ × Kept)) (name : List ℕ) → place_in names name ≡ None → meaning_in names name ≡ None
not_set names name h =
    lookup_none (bytes_eq name) names (behind_all (
    (elim (nat_lt (position_or_len (bytes_eq name) (keys_of names)) (length (keys_of names))) as (λ t. unless_place t ≡ None → t ≡ false) [
      | true ↦ λ e. cc
      | false ↦ λ e. refl
    ]) h))
  where
    unless_place : Bool → Option ℕ
    unless_place t = cond t (Some (position_or_len (bytes_eq name) (keys_of names))) None

    behind_all : nat_lt (position_or_len (bytes_eq name) (keys_of names)) (length (keys_of names)) ≡ false → length (keys_of names) ≤ position_or_len (bytes_eq name) (keys_of names)
    behind_all e = omega (arith, ltb-false _ _ e)

pub not_set_value : (names : List (List ℕ × Kept)) (n : ℕ) (name : List ℕ) → meaning_in names name ≡ None → Long 0 ≡ size_of (level_value names (n + 1) name)
not_set_value names n name is = sym (ap size_of (next_meaning names n name None is))

-- the sizes with one level more
pub next_sizes : (names : List (List ℕ × Kept)) (sizes : Sizes) (n : ℕ) → sizes.levels ≡ n + 1 → sizes.absent ≡ Long 0
    → sizes.named ≡ map (λ name. size_of (level_value names (n + 1) name)) (keys_of names) → AreSizes names sizes
next_sizes names sizes n levels absent named name =
    at_place (place_in names name) refl ∙ ap (λ m. size_of (level_value names m name)) (sym levels)
  where
    at_place : (x : Option ℕ) → place_in names name ≡ x → size_at sizes x ≡ size_of (level_value names (n + 1) name)
    at_place None is = absent ∙ not_set_value names n name (not_set names name is)
    at_place (Some i) is =
        let found = position-Some (bytes_eq name) (keys_of names) i [] is in
        ap (λ xs. get_or xs i sizes.absent) named
        ∙ get_or-map (λ key. size_of (level_value names (n + 1) key)) (keys_of names) i [] sizes.absent found.0
        ∙ ap (λ key. size_of (level_value names (n + 1) key)) (sym ((bytes_eq-Decides name (get_or (keys_of names) i [])).0 found.1))

-- with no level left no name has a value
pub no_levels : (names : List (List ℕ × Kept)) (name : List ℕ) → size_named names (record { levels = 0; named = []; absent = Flawed TooDeep }) name ≡ size_of (level_value names 0 name)
unfolding level_value
no_levels names name = at_place (place_in names name) where
  at_place : (x : Option ℕ) → size_at (record { levels = 0; named = []; absent = Flawed TooDeep }) x ≡ Flawed TooDeep
  at_place None = refl
  at_place (Some i) = refl
