-- The value of a text by its pieces.
use Rattle.std.proofs.Common.{◌≡◌, ℕ, Bool, true, false, nat_lt, List, [], length, Ok, Err, Option, None, Some, refl, sym, ap, ◌∙◌, append-nil, if◌then◌else◌}
use Rattle.std.specs.Option.{option_map}
use Rattle.pf_expand.proofs.LevelLaws.{level_limit}
use Rattle.pf_expand.proofs.RunLaws.{run_flat}
use Rattle.pf_expand.proofs.SizeLaws.{run_size}
use Rattle.pf_expand.specs.Expansion.{Answer, Text, content, joined, length_limit, parts_of, text_value, value_of, value_or_bad, within_limit}
use Rattle.pf_expand.specs.Clauses.Levels.{AreSizes, size_named}
use Rattle.pf_expand.specs.Clauses.Meanings.{Kept, level_value}
use Rattle.pf_expand.specs.Clauses.Runs as runs
use Rattle.pf_expand.specs.Clauses.Sizes.{run, size_of}
use Rattle.pf_expand.specs.Clauses.Tokens.{flat, tokens_of}
use Rattle.pf_expand.specs.declared.flaw.Flaw.{Flaw}
use Rattle.pf_expand.specs.declared.flaw.Flaw.TheVariants.{BadForm, TooLong}
use Rattle.pf_expand.specs.declared.lengths.Sizes.{Sizes}
use Rattle.pf_expand.specs.declared.run.Mode.TheVariants.{Counts}
use Rattle.pf_expand.specs.declared.size.Size.TheVariants.{Long, Flawed}
use Rattle.pf_expand.specs.declared.token.Token.{Token}

joined_none : (x : Answer) → joined x (Ok []) ≡ x
joined_none (Ok bytes) = ap Ok (append-nil bytes)
joined_none (Err flaw) = refl

-- the pieces of a text have its value
run_whole : (values : List ℕ → Answer) (t : Text) → runs.run values Counts (flat t) ≡ value_of values t
run_whole values t = ap (runs.run values Counts) (sym (append-nil (flat t))) ∙ run_flat values t [] ∙ joined_none (value_of values t)

pub value_of_tokens : (values : List ℕ → Answer) (text : List ℕ) (tokens : List Token) → tokens_of text ≡ Some tokens
    → text_value values text ≡ within_limit (runs.run values Counts tokens)
unfolding text_value
value_of_tokens values text tokens is = by_parts (parts_of text) is where
  same_some : (xs ys : List Token) → Some xs ≡ Some ys → xs ≡ ys
  same_some xs ys e = cc

  by_parts : (x : Option Text) → option_map flat x ≡ Some tokens → value_or_bad values x ≡ within_limit (runs.run values Counts tokens)
  by_parts None e = cc
  by_parts (Some t) e = ap within_limit (sym (run_whole values t) ∙ ap (runs.run values Counts) (same_some (flat t) tokens e))

pub value_of_bad : (values : List ℕ → Answer) (text : List ℕ) → tokens_of text ≡ None → text_value values text ≡ Err BadForm
unfolding text_value
value_of_bad values text is = by_parts (parts_of text) is where
  by_parts : (x : Option Text) → option_map flat x ≡ None → value_or_bad values x ≡ Err BadForm
  by_parts None e = refl
  by_parts (Some t) e = cc

-- a flaw, and a length
pub flawed_limit : (x : Answer) (flaw : Flaw) → Flawed flaw ≡ size_of x → within_limit x ≡ Err flaw
flawed_limit (Ok bytes) flaw e =
    (elim (nat_lt length_limit (length bytes)) as (λ t. Flawed flaw ≡ (if t then Flawed TooLong else Long (length bytes)) → unless_long t bytes ≡ Err flaw) [
      | true ↦ λ p. ap Err (same_flaw flaw p)
      | false ↦ λ p. cc
    ]) e
  where
    unless_long : Bool → List ℕ → Answer
    unless_long t b = if t then Err TooLong else Ok b

    same_flaw : (f : Flaw) → Flawed f ≡ Flawed TooLong → TooLong ≡ f
    same_flaw f p = cc
flawed_limit (Err g) flaw e = ap Err (same_flaw flaw g e) where
  same_flaw : (f g : Flaw) → Flawed f ≡ Flawed g → g ≡ f
  same_flaw f g p = cc

pub long_limit : (x : Answer) (n : ℕ) → Long n ≡ size_of x → within_limit x ≡ Ok (content x)
long_limit (Ok bytes) n e =
    (elim (nat_lt length_limit (length bytes)) as (λ t. Long n ≡ (if t then Flawed TooLong else Long (length bytes)) → unless_long t bytes ≡ unless_long false bytes) [
      | true ↦ λ p. cc
      | false ↦ λ p. refl
    ]) e
  where
    unless_long : Bool → List ℕ → Answer
    unless_long t b = if t then Err TooLong else Ok b
long_limit (Err g) n e = cc

-- the size of pieces is that of their value
pub pieces_run : (names : List (List ℕ × Kept)) (sizes : Sizes) (tokens : List Token) → AreSizes names sizes
    → run (size_named names sizes) Counts tokens ≡ size_of (runs.run (level_value names sizes.levels) Counts tokens)
pieces_run names sizes tokens are =
    run_size (level_value names sizes.levels) (size_named names sizes) are (level_limit names sizes.levels) Counts tokens
