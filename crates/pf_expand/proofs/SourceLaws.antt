-- What the code keeps of names is what they stand for.
use Rattle.std.proofs.Common.{◌≡◌, ℕ, ◌+◌, zero, suc, List, Ok, Option, None, Some, refl, sym, ap, ◌∙◌}
use Rattle.pf_base.specs.declared.meaning.Meaning.TheVariants.{Is, DomainOf}
use Rattle.pf_expand.proofs.ValueLaws.{value_of_bad, value_of_tokens}
use Rattle.pf_expand.specs.Expansion.{Answer, Text, joined, parts_of, text_value, value_of, value_or_bad, within_limit}
use Rattle.pf_expand.specs.Expansion.{Text as text}
use Rattle.pf_expand.specs.Clauses.Meanings.{AreNames, Kept, kept, level_value, meaning_value}
use Rattle.pf_base.specs.Meanings.{Source}
use Rattle.pf_expand.specs.Names.{depth_limit, domain_of, expanded, name_value, source_value}
use Rattle.pf_expand.specs.Clauses.Tokens.{tokens_of}
use Rattle.pf_expand.specs.declared.token.Token.{Token}

-- names have the same values
abbrev pub Agree : (List ℕ → Answer) → (List ℕ → Answer) → Type 0
Agree v w = (name : List ℕ) → v name ≡ w name

value_same : (v w : List ℕ → Answer) → Agree v w → (t : Text) → value_of v t ≡ value_of w t
value_same v w same text.end = refl
value_same v w same (text.literal bytes rest) = ap (joined (Ok bytes)) (value_same v w same rest)
value_same v w same (text.value name rest) = rw (same name) (ap (joined (w name)) (value_same v w same rest))
value_same v w same (text.choice name full empty rest) =
    rw (same name, value_same v w same full, value_same v w same empty, value_same v w same rest) refl

pub text_same : (v w : List ℕ → Answer) → Agree v w → (bytes : List ℕ) → text_value v bytes ≡ text_value w bytes
unfolding text_value
text_same v w same bytes = by_parts (parts_of bytes) where
  by_parts : (x : Option Text) → value_or_bad v x ≡ value_or_bad w x
  by_parts None = refl
  by_parts (Some t) = ap within_limit (value_same v w same t)

-- what is kept of a source has its value
kept_value : (values : List ℕ → Answer) (s : Source) → meaning_value values (kept s) ≡ source_value values s
kept_value values (Is bytes) = by_tokens (tokens_of bytes) refl where
  by_tokens : (x : Option (List Token)) → tokens_of bytes ≡ x → meaning_value values (Is x) ≡ text_value values bytes
  by_tokens None is = sym (value_of_bad values bytes is)
  by_tokens (Some tokens) is = sym (value_of_tokens values bytes tokens is)
kept_value values (DomainOf name) = refl

-- at every level
pub level_name : (names : List (List ℕ × Kept)) (sources : List ℕ → Source) → AreNames names sources → (n : ℕ) → Agree (level_value names n) (name_value sources n)
unfolding level_value name_value
level_name names sources are zero name = refl
level_name names sources are (suc n) name =
    ap (meaning_value (level_value names n)) (are name) ∙ kept_value (level_value names n) (sources name) ∙ by_source (level_name names sources are n) (sources name)
  where
    by_source : Agree (level_value names n) (name_value sources n) → (s : Source) → source_value (level_value names n) s ≡ source_value (name_value sources n) s
    by_source same (Is bytes) = text_same (level_value names n) (name_value sources n) same bytes
    by_source same (DomainOf host) = ap domain_of (same host)

-- the value of a text by what is kept
pub value_kept : (names : List (List ℕ × Kept)) (sources : List ℕ → Source) (levels : ℕ) (text : List ℕ) → AreNames names sources → levels ≡ depth_limit
    → text_value (level_value names levels) text ≡ expanded sources text
value_kept names sources levels text are is =
    text_same (level_value names levels) (name_value sources levels) (level_name names sources are levels) text
    ∙ ap (λ n. text_value (name_value sources n) text) is

-- and that of a name
pub name_kept : (names : List (List ℕ × Kept)) (sources : List ℕ → Source) (levels : ℕ) (name : List ℕ) → AreNames names sources → levels ≡ depth_limit
    → level_value names (levels + 1) name ≡ name_value sources (depth_limit + 1) name
name_kept names sources levels name are is = level_name names sources are (levels + 1) name ∙ ap (λ n. name_value sources (n + 1) name) is

-- and the domain in it, with one level less
pub domain_kept : (names : List (List ℕ × Kept)) (sources : List ℕ → Source) (levels : ℕ) (host : List ℕ) → AreNames names sources → levels ≡ depth_limit
    → domain_of (level_value names levels host) ≡ domain_of (name_value sources depth_limit host)
domain_kept names sources levels host are is = ap domain_of (level_name names sources are levels host ∙ ap (λ n. name_value sources n host) is)
