-- A text that is being parted: what is left of it. Words of the code's contracts.
use Rattle.std.specs.Prelude.{◌≡◌, ◌<◌, ℕ, ◌+◌, ◌*◌, ◌++◌, Bool, true, List, [], ◌∷◌, Option, None, Some, length, if◌then◌else◌}
use Rattle.std.specs.List.{fold, sum_by}
use Rattle.std.specs.Option.{option_map}
use Rattle.pf_base.specs.Options.{◌>>=◌}
use Rattle.pf_expand.specs.Clauses.Tokens.{tokens_of}
use Rattle.pf_expand.specs.declared.parse.Left.{Left}
use Rattle.pf_expand.specs.declared.parse.Left.TheVariants as left
use Rattle.pf_expand.specs.declared.token.Token.{Token}
use Rattle.pf_expand.specs.declared.token.Token.TheVariants.{Otherwise, End}

-- the pieces of one thing that is left
abbrev pub one_gives : Left → Option (List Token)
one_gives (left.Text text) = tokens_of text.now
one_gives left.Otherwise = Some (Otherwise ∷ [])
one_gives left.End = Some (End ∷ [])

-- pieces before others
abbrev pub before : Option (List Token) → Option (List Token) → Option (List Token)
before first behind = do
  a ← first
  option_map (λ b. a ++ b) behind

-- the pieces of what is left, of which the last thing comes first
abbrev pub gives : List Left → Option (List Token)
gives things = fold (λ behind one. before (one_gives one) behind) (Some []) things

-- how much work one thing is at most
abbrev pub one_weighs : Left → ℕ
one_weighs (left.Text text) = 2 * length text.now + 1
one_weighs left.Otherwise = 1
one_weighs left.End = 1

abbrev pub weighs : List Left → ℕ
weighs things = sum_by one_weighs things

-- a text was taken before what was left: its first part is a piece now, and the others are left, with less work; or it has a dollar sign
-- that begins no form
pub record Takes (old_tokens new_tokens : List Token) (old new : List Left) (text : List ℕ) (taken : Bool) : Type 0 where
  pub gives : option_map (λ ts. old_tokens ++ ts) (before (tokens_of text) (gives old)) ≡ (if taken then option_map (λ ts. new_tokens ++ ts) (gives new) else None)
  pub less : taken ≡ true → weighs new < weighs old + 2 * length text + 1
