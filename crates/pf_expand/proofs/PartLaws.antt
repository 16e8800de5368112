-- A text in its parts, by its first part.
use Rattle.std.proofs.Common.{◌≡◌, ℕ, ◌≤◌, ◌++◌, zero, suc, List, [], ◌∷◌, length, Option, None, Some, IfSome, refl, sym, ap, ◌∙◌, arith, append_assoc}
use Rattle.std.specs.Option.{option_and_then, option_map}
use Rattle.pf_expand.proofs.FormLemmas.{Shorter, first_part_size}
use Rattle.pf_expand.specs.Expansion.{Text, choice_of, parts, parts_of, parts_with}
use Rattle.pf_expand.specs.Forms.{Part, first_part}
use Rattle.pf_expand.specs.Forms.{Part as part}
use Rattle.pf_expand.specs.Clauses.Parting.{before}
use Rattle.pf_expand.specs.Clauses.Tokens.{flat, tokens_of}
use Rattle.pf_expand.specs.declared.token.Token.{Token}
use Rattle.pf_expand.specs.declared.token.Token.TheVariants.{Literal, Name, Choose, Otherwise, End}

-- the length of a text is enough turns
pub parts_enough : (n m : ℕ) (text : List ℕ) → length text ≤ n → length text ≤ m → parts n text ≡ parts m text
unfolding parts
parts_enough n m [] h k = refl
parts_enough zero m (b ∷ text) h k = absurd (omega (arith, h))
parts_enough (suc n) zero (b ∷ text) h k = absurd (omega (arith, k))
parts_enough (suc n) (suc m) (b ∷ text) h k = same (parts_enough n m) (first_part (b ∷ text)) (first_part_size (b ∷ text)) where
  same : ((rest : List ℕ) → length rest ≤ n → length rest ≤ m → parts n rest ≡ parts m rest)
      → (x : Option (Part × List ℕ)) → IfSome x (Shorter (b ∷ text)) → option_and_then (parts_with (parts n)) x ≡ option_and_then (parts_with (parts m)) x
  same enough None s = refl
  same enough (Some (part.literal bytes, rest)) s = ap (option_map (Text.literal bytes)) (enough rest (omega (arith, h, s)) (omega (arith, k, s)))
  same enough (Some (part.name name, rest)) s = ap (option_map (Text.value name)) (enough rest (omega (arith, h, s)) (omega (arith, k, s)))
  same enough (Some (part.choice name full empty, rest)) s =
      rw (enough full (omega (arith, h, s)) (omega (arith, k, s)), enough empty (omega (arith, h, s)) (omega (arith, k, s)), enough rest (omega (arith, h, s)) (omega (arith, k, s))) refl

-- a text that is not empty is its first part and what is after it
pub parts_step : (b : ℕ) (text : List ℕ) → parts_of (b ∷ text) ≡ option_and_then (parts_with parts_of) (first_part (b ∷ text))
unfolding parts
parts_step b text = same (first_part (b ∷ text)) (first_part_size (b ∷ text)) where
  same : (x : Option (Part × List ℕ)) → IfSome x (Shorter (b ∷ text)) → option_and_then (parts_with (parts (length text))) x ≡ option_and_then (parts_with parts_of) x
  same None s = refl
  same (Some (part.literal bytes, rest)) s = ap (option_map (Text.literal bytes)) (parts_enough (length text) (length rest) rest (omega (arith, s)) (omega arith))
  same (Some (part.name name, rest)) s = ap (option_map (Text.value name)) (parts_enough (length text) (length rest) rest (omega (arith, s)) (omega arith))
  same (Some (part.choice name full empty, rest)) s =
      rw (parts_enough (length text) (length full) full (omega (arith, s)) (omega arith), parts_enough (length text) (length empty) empty (omega (arith, s)) (omega arith), parts_enough (length text) (length rest) rest (omega (arith, s)) (omega arith)) refl

-- the pieces of a part and of what is after it
abbrev pub part_gives : Part × List ℕ → Option (List Token)
part_gives (part.literal bytes, rest) = before (Some (Literal bytes ∷ [])) (tokens_of rest)
part_gives (part.name name, rest) = before (Some (Name name ∷ [])) (tokens_of rest)
part_gives (part.choice name full empty, rest) =
    before (Some (Choose name ∷ [])) (before (tokens_of full) (before (Some (Otherwise ∷ [])) (before (tokens_of empty) (before (Some (End ∷ [])) (tokens_of rest)))))

flat_map_ : (f : Text → Text) (token : Token) → ((t : Text) → flat (f t) ≡ token ∷ flat t) → (x : Option Text) → option_map flat (option_map f x) ≡ before (Some (token ∷ [])) (option_map flat x)
flat_map_ f token h None = refl
flat_map_ f token h (Some t) = ap Some (h t)

flat_choice : (name : List ℕ) (x y z : Option Text) → option_map flat (choice_of name x y z)
    ≡ before (Some (Choose name ∷ [])) (before (option_map flat x) (before (Some (Otherwise ∷ [])) (before (option_map flat y) (before (Some (End ∷ [])) (option_map flat z)))))
flat_choice name None y z = refl
flat_choice name (Some f) None z = refl
flat_choice name (Some f) (Some e) None = refl
flat_choice name (Some f) (Some e) (Some r) = refl

pub tokens_step : (b : ℕ) (text : List ℕ) → tokens_of (b ∷ text) ≡ option_and_then part_gives (first_part (b ∷ text))
tokens_step b text = ap (option_map flat) (parts_step b text) ∙ same (first_part (b ∷ text)) where
  same : (x : Option (Part × List ℕ)) → option_map flat (option_and_then (parts_with parts_of) x) ≡ option_and_then part_gives x
  same None = refl
  same (Some (part.literal bytes, rest)) = flat_map_ (Text.literal bytes) (Literal bytes) (λ t. refl) (parts_of rest)
  same (Some (part.name name, rest)) = flat_map_ (Text.value name) (Name name) (λ t. refl) (parts_of rest)
  same (Some (part.choice name full empty, rest)) = flat_choice name (parts_of full) (parts_of empty) (parts_of rest)

pub before_assoc : (x y z : Option (List Token)) → before (before x y) z ≡ before x (before y z)
before_assoc None y z = refl
before_assoc (Some a) None z = refl
before_assoc (Some a) (Some b) None = refl
before_assoc (Some a) (Some b) (Some c) = ap Some (append_assoc a b c)

-- pieces that were taken, and one more
pub taken_more : (tokens : List Token) (token : Token) (x : Option (List Token))
    → option_map (λ ts. tokens ++ ts) (before (Some (token ∷ [])) x) ≡ option_map (λ ts. (tokens ++ (token ∷ [])) ++ ts) x
taken_more tokens token None = refl
taken_more tokens token (Some ts) = ap Some (sym (append_assoc tokens (token ∷ []) ts))
