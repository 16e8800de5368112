-- The size of pieces so far, and of the others.
use Rattle.std.proofs.Common.{◌≡◌, ℕ, ◌+◌, ◌-◌, ◌<◌, ◌≤◌, ◌==◌, suc, drop, get_or, length, true, false, nat_lt, List, [], ◌∷◌, refl, sym, ap, ◌∙◌, arith, if◌then◌else◌}
use Rattle.std.proofs.lemmas.Bool.{ltb-true, lt-ltb}
use Rattle.std.proofs.Math.Seq.{drop-cons}
use Rattle.pf_expand.proofs.SizeLaws.{flaw_before, flaw_behind}
use Rattle.pf_expand.proofs.RunLaws.{first_flaw_assoc}
use Rattle.pf_expand.specs.Expansion.{length_limit}
use Rattle.pf_expand.specs.Clauses.Meanings.{Kept}
use Rattle.pf_expand.specs.Clauses.Levels.{choice_behind, size_named}
use Rattle.pf_expand.specs.Clauses.Runs.{behind, choice_name}
use Rattle.pf_expand.specs.Clauses.RunsMeant.{depth_of}
use Rattle.pf_expand.specs.Clauses.Sizes.{added, behind_choice, joined, long, run}
use Rattle.pf_expand.specs.declared.flaw.Flaw.TheVariants.{TooLong}
use Rattle.pf_expand.specs.declared.lengths.Sizes.{Sizes}
use Rattle.pf_expand.specs.declared.run.Mode.{Mode}
use Rattle.pf_expand.specs.declared.run.Mode.TheVariants.{Counts, ToOtherwise, ToEnd}
use Rattle.pf_expand.specs.declared.size.Size.{Size}
use Rattle.pf_expand.specs.declared.size.Size.TheVariants.{Long, Flawed}
use Rattle.pf_expand.specs.declared.token.Token.{Token}
use Rattle.pf_expand.specs.declared.token.Token.TheVariants.{Literal, Name, Choose, Otherwise, End}

above : (n : ℕ) → length_limit < n → long n ≡ Flawed TooLong
above n h = ap (λ t. if t then Flawed TooLong else Long n) (lt-ltb length_limit n h)

-- three lengths
long_assoc : (a b c : ℕ) → joined (long (a + b)) (Long c) ≡ joined (Long a) (long (b + c))
long_assoc a b c =
    (elim (nat_lt length_limit (a + b)) as (λ s. nat_lt length_limit (a + b) ≡ s → joined (if s then Flawed TooLong else Long (a + b)) (Long c) ≡ joined (Long a) (long (b + c))) [
      | true ↦ λ p. (elim (nat_lt length_limit (b + c)) as (λ t. Flawed TooLong ≡ joined (Long a) (if t then Flawed TooLong else Long (b + c))) [
        | true ↦ refl
        | false ↦ sym (above (a + (b + c)) (omega (arith, ltb-true length_limit (a + b) p)))
      ])
      | false ↦ λ p. (elim (nat_lt length_limit (b + c)) as (λ t. nat_lt length_limit (b + c) ≡ t → long (a + b + c) ≡ joined (Long a) (if t then Flawed TooLong else Long (b + c))) [
        | true ↦ λ q. above (a + b + c) (omega (arith, ltb-true length_limit (b + c) q))
        | false ↦ λ q. ap long (same a b c)
      ]) refl
    ]) refl
  where
    same : (a b c : ℕ) → a + b + c ≡ a + (b + c)
    same a b c = omega arith

pub size_assoc : (x y z : Size) → joined (joined x y) z ≡ joined x (joined y z)
size_assoc (Long a) (Long b) (Long c) = long_assoc a b c
size_assoc (Long a) (Long b) (Flawed f) = sym (flaw_behind f (a + b))
size_assoc (Long a) (Flawed f) (Long c) = refl
size_assoc (Long a) (Flawed f) (Flawed g) = refl
size_assoc (Flawed f) (Long b) (Long c) = flaw_before f (b + c)
size_assoc (Flawed f) (Long b) (Flawed g) = refl
size_assoc (Flawed f) (Flawed g) (Long c) = refl
size_assoc (Flawed f) (Flawed g) (Flawed h) = ap Flawed (first_flaw_assoc f g h)

-- nothing more
pub size_nothing : (x y : Size) → joined (joined x y) (Long 0) ≡ joined x y
size_nothing (Long a) (Long b) =
    (elim (nat_lt length_limit (a + b)) as (λ s. nat_lt length_limit (a + b) ≡ s → joined (if s then Flawed TooLong else Long (a + b)) (Long 0) ≡ (if s then Flawed TooLong else Long (a + b))) [
      | true ↦ λ p. refl
      | false ↦ λ p. ap long (same (a + b)) ∙ ap (λ t. if t then Flawed TooLong else Long (a + b)) p
    ]) refl
  where
    same : (n : ℕ) → n + 0 ≡ n
    same n = omega arith
size_nothing (Long a) (Flawed f) = refl
size_nothing (Flawed f) (Long b) = refl
size_nothing (Flawed f) (Flawed g) = refl

-- of a piece that is no name of a choice nothing is asked
pub behind_same : (names : List (List ℕ × Kept)) (sizes : Sizes) (mode : Mode) (token : Token)
    → behind (choice_behind names sizes token) mode token ≡ behind (behind_choice (size_named names sizes (choice_name token))) mode token
behind_same names sizes (ToOtherwise n) token = refl
behind_same names sizes (ToEnd n) token = refl
behind_same names sizes Counts (Literal bytes) = refl
behind_same names sizes Counts (Name name) = refl
behind_same names sizes Counts (Choose name) = refl
behind_same names sizes Counts Otherwise = refl
behind_same names sizes Counts End = refl

nothing_before : (x y : Size) → joined (Long 0) (joined x y) ≡ joined x y
nothing_before (Long a) (Long b) =
    (elim (nat_lt length_limit (a + b)) as (λ s. nat_lt length_limit (a + b) ≡ s → joined (Long 0) (if s then Flawed TooLong else Long (a + b)) ≡ (if s then Flawed TooLong else Long (a + b))) [
      | true ↦ λ p. refl
      | false ↦ λ p. ap long (same (a + b)) ∙ ap (λ t. if t then Flawed TooLong else Long (a + b)) p
    ]) refl
  where
    same : (n : ℕ) → 0 + n ≡ n
    same n = omega arith
nothing_before (Long a) (Flawed f) = refl
nothing_before (Flawed f) (Long b) = refl
nothing_before (Flawed f) (Flawed g) = refl

-- nothing before pieces
pub run_alone : (named : List ℕ → Size) (mode : Mode) (tokens : List Token) → run named mode tokens ≡ joined (Long 0) (run named mode tokens)
run_alone named mode [] = refl
run_alone named mode (token ∷ tokens) =
    sym (nothing_before (added named mode token) (run named (behind (behind_choice (named (choice_name token))) mode token) tokens))

-- one piece more
pub run_more : (names : List (List ℕ × Kept)) (sizes : Sizes) (tokens rest behind_it : List Token) (size next : Size) (mode after : Mode) (token : Token)
    → run (size_named names sizes) Counts tokens ≡ joined size (run (size_named names sizes) mode rest) → rest ≡ token ∷ behind_it
    → next ≡ joined size (added (size_named names sizes) mode token) → after ≡ behind (choice_behind names sizes token) mode token
    → run (size_named names sizes) Counts tokens ≡ joined next (run (size_named names sizes) after behind_it)
run_more names sizes tokens rest behind_it size next mode after token so_far is next_is after_is =
    so_far ∙ ap (λ r. joined size (run (size_named names sizes) mode r)) is
    ∙ ap (λ m. joined size (joined (added (size_named names sizes) mode token) (run (size_named names sizes) m behind_it))) (sym (after_is ∙ behind_same names sizes mode token))
    ∙ sym (size_assoc size (added (size_named names sizes) mode token) (run (size_named names sizes) after behind_it))
    ∙ ap (λ x. joined x (run (size_named names sizes) after behind_it)) (sym next_is)

-- the item at a place, and those after it
pub drop_item : (tokens : List Token) (i : ℕ) (token : Token) → i < length tokens → token ≡ get_or tokens i token → drop i tokens ≡ token ∷ drop (i + 1) tokens
drop_item tokens i token within at =
    drop-cons tokens i token within
    ∙ ap (λ t. t ∷ drop (suc i) tokens) (sym at)
    ∙ ap (λ n. token ∷ drop n tokens) (same i)
  where
    same : (i : ℕ) → suc i ≡ i + 1
    same i = omega arith

choice_depth : (x : Size) → depth_of (behind_choice x) ≡ 0
choice_depth (Long n) = elim (n == 0) as (λ t. depth_of (if t then ToOtherwise 0 else Counts) ≡ 0) [ true ↦ refl | false ↦ refl ]
choice_depth (Flawed f) = refl

-- each piece opens one choice at most
pub depth_more : (names : List (List ℕ × Kept)) (sizes : Sizes) (mode : Mode) (token : Token)
    → depth_of (behind (choice_behind names sizes token) mode token) ≤ depth_of mode + 1
depth_more names sizes Counts (Literal bytes) = omega arith
depth_more names sizes Counts (Name name) = omega arith
depth_more names sizes Counts (Choose name) = omega (arith, choice_depth (size_named names sizes name))
depth_more names sizes Counts Otherwise = omega arith
depth_more names sizes Counts End = omega arith
depth_more names sizes (ToOtherwise n) (Literal bytes) = omega arith
depth_more names sizes (ToOtherwise n) (Name name) = omega arith
depth_more names sizes (ToOtherwise n) (Choose name) = omega arith
depth_more names sizes (ToOtherwise n) Otherwise = elim (n == 0) as (λ t. depth_of (if t then Counts else ToOtherwise n) ≤ n + 1) [ true ↦ omega arith | false ↦ omega arith ]
depth_more names sizes (ToOtherwise n) End = omega arith
depth_more names sizes (ToEnd n) (Literal bytes) = omega arith
depth_more names sizes (ToEnd n) (Name name) = omega arith
depth_more names sizes (ToEnd n) (Choose name) = omega arith
depth_more names sizes (ToEnd n) Otherwise = omega arith
depth_more names sizes (ToEnd n) End = elim (n == 0) as (λ t. depth_of (if t then Counts else ToEnd (n - 1)) ≤ n + 1) [ true ↦ omega arith | false ↦ omega arith ]
