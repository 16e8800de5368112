-- A text that is being parted: what one part does to what is left.
use Rattle.std.proofs.Common.{◌≡◌, ◌≢◌, ◌<◌, ℕ, ◌+◌, ◌*◌, ◌++◌, true, false, List, [], ◌∷◌, length, Option, None, Some, IfSome, refl, sym, ap, ◌∙◌, subst, arith}
use Rattle.std.proofs.lemmas.Bool.{false≢true}
use Rattle.std.proofs.lemmas.List.Sums.{fold-append, sum_by-append}
use Rattle.std.specs.Option.{option_and_then, option_map}
use Rattle.pf_expand.proofs.FormLemmas.{Shorter, first_part_size}
use Rattle.pf_expand.proofs.PartLaws.{before_assoc, part_gives, taken_more, tokens_step}
use Rattle.pf_expand.specs.Expansion.{parts}
use Rattle.pf_expand.specs.Forms.{Part, first_part}
use Rattle.pf_expand.specs.Forms.{Part as part}
use Rattle.pf_expand.specs.Clauses.Parting.{Takes, before, gives, one_gives, one_weighs, weighs}
use Rattle.pf_expand.specs.Clauses.Tokens.{tokens_of}
use Rattle.pf_expand.specs.declared.parse.Left.{Left}
use Rattle.pf_expand.specs.declared.token.Token.{Token}
use Rattle.pf_expand.specs.declared.token.Token.TheVariants.{Choose, Otherwise, End}

before_nothing : (tokens : List Token) (x : Option (List Token)) → option_map (λ ts. tokens ++ ts) (before (Some []) x) ≡ option_map (λ ts. tokens ++ ts) x
before_nothing tokens None = refl
before_nothing tokens (Some ts) = refl

-- an empty text has no part
pub takes_none : (tokens : List Token) (left : List Left) (text : List ℕ) → text ≡ [] → Takes tokens tokens left left text true
unfolding parts
takes_none tokens left text e = subst (λ t. Takes tokens tokens left left t true) (sym e) (record {
  gives = before_nothing tokens (gives left);
  less = λ t. omega arith;
})

-- the pieces of a text by its first part
of_first : (text : List ℕ) (x : Option (Part × List ℕ)) → text ≢ [] → first_part text ≡ x → tokens_of text ≡ option_and_then part_gives x
of_first [] x n e = absurd (n refl)
of_first (b ∷ text) x n e = tokens_step b text ∙ ap (option_and_then part_gives) e

-- a dollar sign begins no form
pub takes_bad : (tokens : List Token) (left : List Left) (text : List ℕ) → text ≢ [] → first_part text ≡ None → Takes tokens tokens left left text false
takes_bad tokens left text n e = record {
  gives = ap (λ x. option_map (λ ts. tokens ++ ts) (before x (gives left))) (of_first text None n e);
  less = λ t. absurd (false≢true t);
}

-- a part of one piece, with the text after it
pub takes_piece : (tokens new_tokens : List Token) (left new_left : List Left) (text rest : List ℕ) (p : Part) (token : Token)
    → text ≢ [] → first_part text ≡ Some (p, rest) → part_gives (p, rest) ≡ before (Some (token ∷ [])) (tokens_of rest)
    → new_tokens ≡ tokens ++ (token ∷ []) → gives new_left ≡ before (tokens_of rest) (gives left) → weighs new_left ≡ weighs left + (2 * length rest + 1)
    → Takes tokens new_tokens left new_left text true
takes_piece tokens new_tokens left new_left text rest p token n e piece grown given weight = record {
  gives = ap (λ x. option_map (λ ts. tokens ++ ts) (before x (gives left))) (of_first text (Some (p, rest)) n e ∙ piece)
      ∙ ap (option_map (λ ts. tokens ++ ts)) (before_assoc (Some (token ∷ [])) (tokens_of rest) (gives left))
      ∙ taken_more tokens token (before (tokens_of rest) (gives left))
      ∙ ap (option_map (λ ts. (tokens ++ (token ∷ [])) ++ ts)) (sym given)
      ∙ ap (λ ts. option_map (λ more. ts ++ more) (gives new_left)) (sym grown);
  less = λ t. omega (arith, weight, shorter (first_part text) e (first_part_size text));
}
  where
    shorter : (x : Option (Part × List ℕ)) → x ≡ Some (p, rest) → IfSome x (Shorter text) → length rest < length text
    shorter x is h = let s = subst (λ y. IfSome y (Shorter text)) is h in omega (arith, s)

-- one more thing is left
pub one_more_gives : (left new : List Left) (one : Left) → new ≡ left ++ (one ∷ []) → gives new ≡ before (one_gives one) (gives left)
one_more_gives left new one e = ap gives e ∙ fold-append (λ behind thing. before (one_gives thing) behind) (Some []) left (one ∷ [])

pub one_more_weighs : (left new : List Left) (one : Left) → new ≡ left ++ (one ∷ []) → weighs new ≡ weighs left + one_weighs one
one_more_weighs left new one e =
    let sum = ap weighs e ∙ sum_by-append one_weighs left (one ∷ []) in
    omega (arith, sum)

-- a choice, with the text after it
pub takes_choice : (tokens new_tokens : List Token) (left new_left : List Left) (text name full empty rest : List ℕ)
    → text ≢ [] → first_part text ≡ Some (part.choice name full empty, rest) → new_tokens ≡ tokens ++ (Choose name ∷ [])
    → gives new_left ≡ before (tokens_of full) (before (Some (Otherwise ∷ [])) (before (tokens_of empty) (before (Some (End ∷ [])) (before (tokens_of rest) (gives left)))))
    → weighs new_left ≡ weighs left + 2 * (length full + length empty + length rest) + 5 → Takes tokens new_tokens left new_left text true
takes_choice tokens new_tokens left new_left text name full empty rest n e grown given weight = record {
  gives = ap (λ x. option_map (λ ts. tokens ++ ts) (before x (gives left))) (of_first text (Some (part.choice name full empty, rest)) n e)
      ∙ ap (option_map (λ ts. tokens ++ ts)) (all ∙ ap (before (Some (Choose name ∷ []))) (sym given))
      ∙ taken_more tokens (Choose name) (gives new_left)
      ∙ ap (λ ts. option_map (λ more. ts ++ more) (gives new_left)) (sym grown);
  less = λ t. omega (arith, weight, shorter (first_part text) e (first_part_size text));
}
  where
    shorter : (x : Option (Part × List ℕ)) → x ≡ Some (part.choice name full empty, rest) → IfSome x (Shorter text) → length full + length empty + 2 + length rest < length text
    shorter x is h = let s = subst (λ y. IfSome y (Shorter text)) is h in omega (arith, s)

    all : before (part_gives (part.choice name full empty, rest)) (gives left)
        ≡ before (Some (Choose name ∷ [])) (before (tokens_of full) (before (Some (Otherwise ∷ [])) (before (tokens_of empty) (before (Some (End ∷ [])) (before (tokens_of rest) (gives left))))))
    all = before_assoc (Some (Choose name ∷ [])) _ (gives left)
        ∙ ap (before (Some (Choose name ∷ []))) (before_assoc (tokens_of full) _ (gives left)
        ∙ ap (before (tokens_of full)) (before_assoc (Some (Otherwise ∷ [])) _ (gives left)
        ∙ ap (before (Some (Otherwise ∷ []))) (before_assoc (tokens_of empty) _ (gives left)
        ∙ ap (before (tokens_of empty)) (before_assoc (Some (End ∷ [])) (tokens_of rest) (gives left)))))
