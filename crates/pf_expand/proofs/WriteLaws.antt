-- What is written of a value, piece by piece.
use Rattle.std.proofs.Common.{◌≡◌, ◌≢◌, get_or, drop, nat_lt, if◌then◌else◌, ℕ, ◌+◌, ◌-◌, ◌<◌, ◌≤◌, ◌++◌, Bool, true, false, List, [], ◌∷◌, length, Ok, Err, is_ok, None, Some, refl, sym, ap, ◌∙◌, subst, arith, append_assoc}
use Rattle.std.proofs.lemmas.List.{nil_from_length}
use Rattle.pf_base.specs.declared.meaning.Meaning.TheVariants.{Is, DomainOf}
use Rattle.pf_expand.proofs.LengthLaws.{depth_more, drop_item}
use Rattle.pf_expand.proofs.LevelLaws.{both, level_extends, level_limit}
use Rattle.pf_expand.proofs.RoundLaws.{next_meaning}
use Rattle.pf_expand.proofs.SizeLaws.{choice_size, limited_size}
use Rattle.pf_expand.specs.Expansion.{Answer, content, length_limit, within_limit}
use Rattle.pf_expand.specs.Clauses.Levels.{AreSizes, choice_behind, size_named}
use Rattle.pf_expand.specs.Clauses.Meanings.{Kept, level_value, meaning_in}
use Rattle.pf_expand.specs.Names.{domain_of}
use Rattle.pf_expand.specs.Clauses.Runs.{added, behind, behind_choice, choice_name, flaw_alone, run}
use Rattle.pf_expand.specs.Clauses.RunsMeant.{depth_of}
use Rattle.pf_expand.specs.Clauses.Sizes as spec
use Rattle.pf_expand.specs.Clauses.Sizes.{size_of}
use Rattle.pf_expand.specs.declared.flaw.Flaw.TheVariants.{TooLong}
use Rattle.pf_expand.specs.declared.lengths.Sizes.{Sizes}
use Rattle.pf_expand.specs.declared.run.Mode.{Mode}
use Rattle.pf_expand.specs.declared.run.Mode.TheVariants.{Counts, ToOtherwise, ToEnd}
use Rattle.pf_expand.specs.declared.size.Size.TheVariants.{Long}
use Rattle.pf_expand.specs.declared.token.Token.{Token}
use Rattle.pf_expand.specs.declared.token.Token.TheVariants.{Literal, Name, Choose, Otherwise, End}

-- a value that is there is its bytes
pub is_there : (x : Answer) → is_ok x ≡ true → x ≡ Ok (content x)
is_there (Ok bytes) h = refl
is_there (Err flaw) h = cc

-- with more levels it is the same
there_at : (names : List (List ℕ × Kept)) (n m : ℕ) (name bytes : List ℕ) → n ≤ m → level_value names n name ≡ Ok bytes → level_value names m name ≡ Ok bytes
there_at names n m name bytes h e = subst (λ k. level_value names k name ≡ Ok bytes) (up n m h) (level_extends names n (m - n) name bytes e) where
  up : (n m : ℕ) → n ≤ m → n + (m - n) ≡ m
  up n m h = omega (arith, h)

-- the size of a value that is there with fewer levels
there_size : (names : List (List ℕ × Kept)) (sizes : Sizes) (n : ℕ) (name bytes : List ℕ) → AreSizes names sizes → n ≤ sizes.levels → level_value names n name ≡ Ok bytes
    → size_named names sizes name ≡ Long (length bytes)
there_size names sizes n name bytes are h e =
    let at = there_at names n sizes.levels name bytes h e in
    are name ∙ ap size_of at ∙ limited_size bytes (subst (λ x. within_limit x ≡ x) at (level_limit names sizes.levels name))

-- so a name without length has an empty value
pub empty_there : (names : List (List ℕ × Kept)) (sizes : Sizes) (n : ℕ) (name : List ℕ) → AreSizes names sizes → n ≤ sizes.levels
    → is_ok (level_value names n name) ≡ true → size_named names sizes name ≡ Long 0 → content (level_value names n name) ≡ []
empty_there names sizes n name are h there none =
    let is = is_there (level_value names n name) there in
    nil_from_length (content (level_value names n name)) (same_length _ (sym (there_size names sizes n name (content (level_value names n name)) are h is) ∙ none))
  where
    same_length : (n : ℕ) → Long n ≡ Long 0 → n ≡ 0
    same_length n e = cc

-- what counts after a piece, by the sizes and by the values
behind_there : (names : List (List ℕ × Kept)) (sizes : Sizes) (n : ℕ) (mode : Mode) (token : Token) (bytes : List ℕ) → AreSizes names sizes → n ≤ sizes.levels
    → added (level_value names n) mode token ≡ Ok bytes
    → behind (choice_behind names sizes token) mode token ≡ behind (behind_choice (level_value names n (choice_name token))) mode token
behind_there names sizes n (ToOtherwise k) token bytes are h e = refl
behind_there names sizes n (ToEnd k) token bytes are h e = refl
behind_there names sizes n Counts (Literal b) bytes are h e = refl
behind_there names sizes n Counts (Name name) bytes are h e = refl
behind_there names sizes n Counts (Choose name) bytes are h e =
    let y = flaw_ok (level_value names n name) bytes e in
    let limited = subst (λ x. within_limit x ≡ x) y.1 (level_limit names n name) in
    ap spec.behind_choice (there_size names sizes n name y.0 are h y.1 ∙ sym (limited_size y.0 limited))
    ∙ choice_size (Ok y.0) limited ∙ ap behind_choice (sym y.1)
  where
    flaw_ok : (x : Answer) (bytes : List ℕ) → flaw_alone x ≡ Ok bytes → (y : List ℕ) × (x ≡ Ok y)
    flaw_ok (Ok y) bytes e = (y, refl)
    flaw_ok (Err f) bytes e = cc
behind_there names sizes n Counts Otherwise bytes are h e = refl
behind_there names sizes n Counts End bytes are h e = refl

-- one piece of a value that is there, and the others
pub record Piece (names : List (List ℕ × Kept)) (sizes : Sizes) (n : ℕ) (mode : Mode) (token : Token) (rest : List Token) : Type 0 where
  pub adds : is_ok (added (level_value names n) mode token) ≡ true
  pub others : is_ok (run (level_value names n) (behind (choice_behind names sizes token) mode token) rest) ≡ true
  pub whole : content (run (level_value names n) mode (token ∷ rest))
      ≡ content (added (level_value names n) mode token) ++ content (run (level_value names n) (behind (choice_behind names sizes token) mode token) rest)

pub piece : (names : List (List ℕ × Kept)) (sizes : Sizes) (n : ℕ) (mode : Mode) (token : Token) (rest : List Token) → AreSizes names sizes → n ≤ sizes.levels
    → is_ok (run (level_value names n) mode (token ∷ rest)) ≡ true → Piece names sizes n mode token rest
piece names sizes n mode token rest are h there =
    let v = level_value names n in
    let after = behind (behind_choice (v (choice_name token))) mode token in
    let parts = both (added v mode token) (run v after rest) _ (is_there (run v mode (token ∷ rest)) there) in
    let same = behind_there names sizes n mode token parts.first are h parts.x_is in
    record {
      adds = ap is_ok parts.x_is;
      others = ap (λ m. is_ok (run v m rest)) same ∙ ap is_ok parts.y_is;
      whole = parts.bytes_is ∙ ap (λ xs. xs ++ parts.second) (sym (ap content parts.x_is))
          ∙ ap (λ xs. content (added v mode token) ++ xs) (sym (ap content parts.y_is) ∙ ap (λ m. content (run v m rest)) (sym same));
    }

-- a name's value with one level more, by what the name means
limit_there : (x : Answer) → is_ok (within_limit x) ≡ true → within_limit x ≡ x
limit_there (Ok bytes) h =
    (elim (nat_lt length_limit (length bytes)) as (λ t. is_ok (unless_long t bytes) ≡ true → unless_long t bytes ≡ unless_long false bytes) [
      | true ↦ λ e. cc
      | false ↦ λ e. refl
    ]) h
  where
    unless_long : Bool → List ℕ → Answer
    unless_long t b = if t then Err TooLong else Ok b
limit_there (Err flaw) h = refl

pub text_there : (names : List (List ℕ × Kept)) (n : ℕ) (name : List ℕ) (tokens : List Token) → meaning_in names name ≡ Some (Is (Some tokens))
    → is_ok (level_value names (n + 1) name) ≡ true → level_value names (n + 1) name ≡ run (level_value names n) Counts tokens
text_there names n name tokens is there =
    let next = next_meaning names n name (Some (Is (Some tokens))) is in
    next ∙ limit_there (run (level_value names n) Counts tokens) (ap is_ok (sym next) ∙ there)

pub domain_there : (names : List (List ℕ × Kept)) (n : ℕ) (name host : List ℕ) → meaning_in names name ≡ Some (DomainOf host)
    → level_value names (n + 1) name ≡ domain_of (level_value names n host)
domain_there names n name host is = next_meaning names n name (Some (DomainOf host)) is

pub host_there : (x : Answer) → is_ok (domain_of x) ≡ true → is_ok x ≡ true
host_there (Ok host) h = refl
host_there (Err flaw) h = h

pub none_there : (names : List (List ℕ × Kept)) (n : ℕ) (name : List ℕ) → meaning_in names name ≡ None → content (level_value names (n + 1) name) ≡ []
none_there names n name is = ap content (next_meaning names n name None is)

pub bad_there : (names : List (List ℕ × Kept)) (n : ℕ) (name : List ℕ) → meaning_in names name ≡ Some (Is None) → is_ok (level_value names (n + 1) name) ≡ true → ⊥
bad_there names n name is there = cc_false (sym (ap is_ok (next_meaning names n name (Some (Is None)) is)) ∙ there) where
  cc_false : false ≡ true → ⊥
  cc_false e = cc

-- one level less, and then one more
pub one_less : (n : ℕ) → n ≢ 0 → n - 1 + 1 ≡ n
one_less n h = omega (arith, h)

pub zero_there : (names : List (List ℕ × Kept)) (name : List ℕ) → is_ok (level_value names 0 name) ≡ true → ⊥
unfolding level_value
zero_there names name h = cc

-- one piece more was written of a value
pub wrote_more : (names : List (List ℕ × Kept)) (sizes : Sizes) (n : ℕ) (tokens : List Token) (i : ℕ) (mode after : Mode) (token : Token) (whole out new : List ℕ)
    → AreSizes names sizes → n ≤ sizes.levels → i < length tokens → token ≡ get_or tokens i token
    → whole ≡ out ++ content (run (level_value names n) mode (drop i tokens)) → is_ok (run (level_value names n) mode (drop i tokens)) ≡ true → depth_of mode ≤ i
    → new ≡ out ++ content (added (level_value names n) mode token) → after ≡ behind (choice_behind names sizes token) mode token
    → (whole ≡ new ++ content (run (level_value names n) after (drop (i + 1) tokens))) × (is_ok (run (level_value names n) after (drop (i + 1) tokens)) ≡ true) × (depth_of after ≤ i + 1)
wrote_more names sizes n tokens i mode after token whole out new are h within at so_far there depth wrote is =
    let v = level_value names n in
    let rest = drop_item tokens i token within at in
    let p = piece names sizes n mode token (drop (i + 1) tokens) are h (ap (λ r. is_ok (run v mode r)) (sym rest) ∙ there) in (
      so_far ∙ ap (λ r. out ++ content (run v mode r)) rest ∙ ap (λ xs. out ++ xs) p.whole
          ∙ sym (append_assoc out (content (added v mode token)) (content (run v (behind (choice_behind names sizes token) mode token) (drop (i + 1) tokens))))
          ∙ ap (λ o. o ++ content (run v (behind (choice_behind names sizes token) mode token) (drop (i + 1) tokens))) (sym wrote)
          ∙ ap (λ m. new ++ content (run v m (drop (i + 1) tokens))) (sym is),
      ap (λ m. is_ok (run v m (drop (i + 1) tokens))) is ∙ p.others,
      rw is (omega (arith, depth, depth_more names sizes mode token)),
    )
