-- The size of pieces in turn is the size of their value.
use Rattle.std.proofs.Common.{◌≡◌, ℕ, ◌+◌, ◌<◌, true, false, nat_lt, List, [], ◌∷◌, Ok, Err, length, refl, sym, ap, ◌∙◌, arith, if◌then◌else◌}
use Rattle.std.proofs.lemmas.Bool.{ltb-true, lt-ltb, ne_eqb}
use Rattle.std.proofs.lemmas.List.{length-append}
use Rattle.pf_expand.specs.Expansion.{Answer, first_flaw, joined, length_limit, within_limit}
use Rattle.pf_expand.specs.Clauses.Runs as runs
use Rattle.pf_expand.specs.Clauses.Runs.{added, behind, choice_name, run}
use Rattle.pf_expand.specs.Clauses.Sizes as sizes
use Rattle.pf_expand.specs.Clauses.Sizes.{long, size_of}
use Rattle.pf_expand.specs.declared.flaw.Flaw.{Flaw}
use Rattle.pf_expand.specs.declared.flaw.Flaw.TheVariants.{BadForm, TooDeep, TooLong}
use Rattle.pf_expand.specs.declared.run.Mode.{Mode}
use Rattle.pf_expand.specs.declared.run.Mode.TheVariants.{Counts, ToOtherwise, ToEnd}
use Rattle.pf_expand.specs.declared.size.Size.{Size}
use Rattle.pf_expand.specs.declared.size.Size.TheVariants.{Long, Flawed}
use Rattle.pf_expand.specs.declared.token.Token.{Token}
use Rattle.pf_expand.specs.declared.token.Token.TheVariants.{Literal, Name, Choose, Otherwise, End}

-- names have these sizes
abbrev pub Agrees : (List ℕ → Answer) → (List ℕ → Size) → Type 0
Agrees values named = (name : List ℕ) → named name ≡ size_of (values name)

-- and no value is above the limit
abbrev pub Limited : (List ℕ → Answer) → Type 0
Limited values = (name : List ℕ) → within_limit (values name) ≡ values name

long_sum : (a b : ℕ) → long (a + b) ≡ sizes.joined (long a) (long b)
long_sum a b =
    (elim (nat_lt length_limit a) as (λ s. nat_lt length_limit a ≡ s → long (a + b) ≡ sizes.joined (if s then Flawed TooLong else Long a) (long b)) [
      | true ↦ λ p. above (omega (arith, ltb-true length_limit a p)) ∙ elim (nat_lt length_limit b) as (λ t. Flawed TooLong ≡ sizes.joined (Flawed TooLong) (if t then Flawed TooLong else Long b)) [ true ↦ refl | false ↦ refl ]
      | false ↦ λ p. (elim (nat_lt length_limit b) as (λ t. nat_lt length_limit b ≡ t → long (a + b) ≡ sizes.joined (Long a) (if t then Flawed TooLong else Long b)) [
        | true ↦ λ q. above (omega (arith, ltb-true length_limit b q))
        | false ↦ λ q. refl
      ]) refl
    ]) refl
  where
    above : length_limit < a + b → long (a + b) ≡ Flawed TooLong
    above h = ap (λ t. if t then Flawed TooLong else Long (a + b)) (lt-ltb length_limit (a + b) h)

pub flaw_before : (flaw : Flaw) (n : ℕ) → Flawed flaw ≡ sizes.joined (Flawed flaw) (long n)
flaw_before flaw n = elim (nat_lt length_limit n) as (λ t. Flawed flaw ≡ sizes.joined (Flawed flaw) (if t then Flawed TooLong else Long n)) [ true ↦ ap Flawed (same flaw) | false ↦ refl ] where
  same : (flaw : Flaw) → flaw ≡ first_flaw flaw TooLong
  same BadForm = refl
  same TooDeep = refl
  same TooLong = refl

pub flaw_behind : (flaw : Flaw) (n : ℕ) → Flawed flaw ≡ sizes.joined (long n) (Flawed flaw)
flaw_behind flaw n = elim (nat_lt length_limit n) as (λ t. Flawed flaw ≡ sizes.joined (if t then Flawed TooLong else Long n) (Flawed flaw)) [ true ↦ refl | false ↦ refl ]

pub joined_size : (x y : Answer) → size_of (joined x y) ≡ sizes.joined (size_of x) (size_of y)
joined_size (Ok a) (Ok b) = ap long (length-append a b) ∙ long_sum (length a) (length b)
joined_size (Ok a) (Err flaw) = flaw_behind flaw (length a)
joined_size (Err flaw) (Ok b) = flaw_before flaw (length b)
joined_size (Err flaw) (Err other) = refl

-- a value that is not above the limit has its length as its size
pub limited_size : (bytes : List ℕ) → within_limit (Ok bytes) ≡ Ok bytes → size_of (Ok bytes) ≡ Long (length bytes)
limited_size bytes h =
    (elim (nat_lt length_limit (length bytes)) as (λ t. (if t then Err TooLong else Ok bytes) ≡ Ok bytes → (if t then Flawed TooLong else Long (length bytes)) ≡ Long (length bytes)) [
      | true ↦ λ e. cc
      | false ↦ λ e. refl
    ]) h

flaw_size : (x : Answer) → within_limit x ≡ x → size_of (runs.flaw_alone x) ≡ sizes.flaw_alone (size_of x)
flaw_size (Ok bytes) h = rw (limited_size bytes h) refl
flaw_size (Err flaw) h = refl

pub choice_size : (x : Answer) → within_limit x ≡ x → sizes.behind_choice (size_of x) ≡ runs.behind_choice x
choice_size (Ok []) h = refl
choice_size (Ok (b ∷ bytes)) h = rw (limited_size (b ∷ bytes) h) (ap (λ t. if t then ToOtherwise 0 else Counts) (ne_eqb (length (b ∷ bytes)) 0 (λ e. omega (arith, e))))
choice_size (Err flaw) h = refl

added_size : (values : List ℕ → Answer) (named : List ℕ → Size) → Agrees values named → Limited values → (mode : Mode) (token : Token)
    → sizes.added named mode token ≡ size_of (added values mode token)
added_size values named agrees limited Counts (Literal bytes) = refl
added_size values named agrees limited Counts (Name name) = agrees name
added_size values named agrees limited Counts (Choose name) = ap sizes.flaw_alone (agrees name) ∙ sym (flaw_size (values name) (limited name))
added_size values named agrees limited Counts Otherwise = refl
added_size values named agrees limited Counts End = refl
added_size values named agrees limited (ToOtherwise n) token = refl
added_size values named agrees limited (ToEnd n) token = refl

-- the size of pieces is that of their value
pub run_size : (values : List ℕ → Answer) (named : List ℕ → Size) → Agrees values named → Limited values → (mode : Mode) (tokens : List Token)
    → sizes.run named mode tokens ≡ size_of (run values mode tokens)
run_size values named agrees limited mode [] = refl
run_size values named agrees limited mode (token ∷ tokens) =
    ap (λ x. sizes.joined x (sizes.run named (behind (sizes.behind_choice (named (choice_name token))) mode token) tokens)) (added_size values named agrees limited mode token)
    ∙ ap (λ choice. sizes.joined (size_of (added values mode token)) (sizes.run named (behind choice mode token) tokens))
    (ap sizes.behind_choice (agrees (choice_name token)) ∙ choice_size (values (choice_name token)) (limited (choice_name token)))
    ∙ ap (sizes.joined (size_of (added values mode token))) (run_size values named agrees limited (behind (runs.behind_choice (values (choice_name token))) mode token) tokens)
    ∙ sym (joined_size (added values mode token) (run values (behind (runs.behind_choice (values (choice_name token))) mode token) tokens))
