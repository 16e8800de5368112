-- The pieces of a text in turn have the value of the text.
use Rattle.std.proofs.Common.{◌≡◌, ℕ, ◌+◌, ◌-◌, ◌==◌, ◌++◌, List, [], ◌∷◌, Ok, Err, refl, sym, ap, ◌∙◌, arith, append_assoc, if◌then◌else◌}
use Rattle.std.proofs.lemmas.Bool.{ne_eqb}
use Rattle.pf_expand.specs.Expansion.{Answer, Text, chosen, first_flaw, joined, value_of}
use Rattle.pf_expand.specs.Expansion.{Text as text}
use Rattle.pf_expand.specs.Clauses.Runs.{run}
use Rattle.pf_expand.specs.Clauses.Tokens.{flat}
use Rattle.pf_expand.specs.declared.flaw.Flaw.{Flaw}
use Rattle.pf_expand.specs.declared.flaw.Flaw.TheVariants.{BadForm, TooDeep, TooLong}
use Rattle.pf_expand.specs.declared.run.Mode.TheVariants.{Counts, ToOtherwise, ToEnd}
use Rattle.pf_expand.specs.declared.token.Token.{Token}
use Rattle.pf_expand.specs.declared.token.Token.TheVariants.{Choose, Otherwise, End}

pub joined_nothing : (x : Answer) → joined (Ok []) x ≡ x
joined_nothing (Ok bytes) = refl
joined_nothing (Err flaw) = refl

pub first_flaw_assoc : (a b c : Flaw) → first_flaw (first_flaw a b) c ≡ first_flaw a (first_flaw b c)
first_flaw_assoc BadForm b c = refl
first_flaw_assoc TooDeep BadForm c = refl
first_flaw_assoc TooDeep TooDeep BadForm = refl
first_flaw_assoc TooDeep TooDeep TooDeep = refl
first_flaw_assoc TooDeep TooDeep TooLong = refl
first_flaw_assoc TooDeep TooLong c = refl
first_flaw_assoc TooLong b c = refl

pub joined_assoc : (x y z : Answer) → joined (joined x y) z ≡ joined x (joined y z)
joined_assoc (Ok a) (Ok b) (Ok c) = ap Ok (append_assoc a b c)
joined_assoc (Ok a) (Ok b) (Err f) = refl
joined_assoc (Ok a) (Err f) (Ok c) = refl
joined_assoc (Ok a) (Err f) (Err g) = refl
joined_assoc (Err f) (Ok b) (Ok c) = refl
joined_assoc (Err f) (Ok b) (Err g) = refl
joined_assoc (Err f) (Err g) (Ok c) = refl
joined_assoc (Err f) (Err g) (Err h) = ap Err (first_flaw_assoc f g h)

-- a choice as a list, with what is after it
flat_more : (name : List ℕ) (f e r : Text) (ts : List Token)
    → flat (text.choice name f e r) ++ ts ≡ Choose name ∷ (flat f ++ (Otherwise ∷ (flat e ++ (End ∷ (flat r ++ ts)))))
flat_more name f e r ts =
    ap (λ xs. Choose name ∷ xs) (append_assoc (flat f) (Otherwise ∷ (flat e ++ (End ∷ flat r))) ts
    ∙ ap (λ xs. flat f ++ (Otherwise ∷ xs)) (append_assoc (flat e) (End ∷ flat r) ts))

-- a text in a first text that is passed over
skip_first : (values : List ℕ → Answer) (n : ℕ) (t : Text) (ts : List Token) → run values (ToOtherwise n) (flat t ++ ts) ≡ run values (ToOtherwise n) ts
skip_first values n text.end ts = refl
skip_first values n (text.literal bytes r) ts = joined_nothing _ ∙ skip_first values n r ts
skip_first values n (text.value name r) ts = joined_nothing _ ∙ skip_first values n r ts
skip_first values n (text.choice name f e r) ts =
    ap (run values (ToOtherwise n)) (flat_more name f e r ts)
    ∙ joined_nothing _
    ∙ skip_first values (n + 1) f (Otherwise ∷ (flat e ++ (End ∷ (flat r ++ ts))))
    ∙ joined_nothing _
    ∙ ap (λ mode. run values mode (flat e ++ (End ∷ (flat r ++ ts)))) (still n)
    ∙ skip_first values (n + 1) e (End ∷ (flat r ++ ts))
    ∙ joined_nothing _
    ∙ ap (λ m. run values (ToOtherwise m) (flat r ++ ts)) (back n)
    ∙ skip_first values n r ts
  where
    still : (n : ℕ) → (if (n + 1) == 0 then Counts else ToOtherwise (n + 1)) ≡ ToOtherwise (n + 1)
    still n = ap (λ b. if b then Counts else ToOtherwise (n + 1)) (ne_eqb (n + 1) 0 (λ e. omega (arith, e)))

    back : (n : ℕ) → n + 1 - 1 ≡ n
    back n = omega arith

-- a text that is passed over up to the end of a choice
skip_second : (values : List ℕ → Answer) (n : ℕ) (t : Text) (ts : List Token) → run values (ToEnd n) (flat t ++ ts) ≡ run values (ToEnd n) ts
skip_second values n text.end ts = refl
skip_second values n (text.literal bytes r) ts = joined_nothing _ ∙ skip_second values n r ts
skip_second values n (text.value name r) ts = joined_nothing _ ∙ skip_second values n r ts
skip_second values n (text.choice name f e r) ts =
    ap (run values (ToEnd n)) (flat_more name f e r ts)
    ∙ joined_nothing _
    ∙ skip_second values (n + 1) f (Otherwise ∷ (flat e ++ (End ∷ (flat r ++ ts))))
    ∙ joined_nothing _
    ∙ skip_second values (n + 1) e (End ∷ (flat r ++ ts))
    ∙ joined_nothing _
    ∙ ap (λ mode. run values mode (flat r ++ ts)) (back n)
    ∙ skip_second values n r ts
  where
    same : (n : ℕ) → n + 1 - 1 ≡ n
    same n = omega arith

    back : (n : ℕ) → (if (n + 1) == 0 then Counts else ToEnd (n + 1 - 1)) ≡ ToEnd n
    back n = ap (λ b. if b then Counts else ToEnd (n + 1 - 1)) (ne_eqb (n + 1) 0 (λ e. omega (arith, e))) ∙ ap ToEnd (same n)

-- the pieces of a text, and those after it
pub run_flat : (values : List ℕ → Answer) (t : Text) (ts : List Token) → run values Counts (flat t ++ ts) ≡ joined (value_of values t) (run values Counts ts)
run_flat values text.end ts = sym (joined_nothing (run values Counts ts))
run_flat values (text.literal bytes r) ts = ap (joined (Ok bytes)) (run_flat values r ts) ∙ sym (joined_assoc (Ok bytes) (value_of values r) (run values Counts ts))
run_flat values (text.value name r) ts = ap (joined (values name)) (run_flat values r ts) ∙ sym (joined_assoc (values name) (value_of values r) (run values Counts ts))
run_flat values (text.choice name f e r) ts =
    ap (run values Counts) (flat_more name f e r ts)
    ∙ by_name (values name) refl (run_flat values f (Otherwise ∷ (flat e ++ (End ∷ (flat r ++ ts))))) (run_flat values e (End ∷ (flat r ++ ts))) (run_flat values r ts)
  where
    behind_full : List Token
    behind_full = Otherwise ∷ (flat e ++ (End ∷ (flat r ++ ts)))

    behind_empty : List Token
    behind_empty = End ∷ (flat r ++ ts)

    -- after the first text, the second one is passed over
    over_second : run values (ToEnd 0) (flat e ++ behind_empty) ≡ run values Counts (flat r ++ ts)
    over_second = skip_second values 0 e behind_empty ∙ joined_nothing _

    by_name : (x : Answer) → values name ≡ x
        → run values Counts (flat f ++ behind_full) ≡ joined (value_of values f) (run values Counts behind_full)
        → run values Counts (flat e ++ behind_empty) ≡ joined (value_of values e) (run values Counts behind_empty)
        → run values Counts (flat r ++ ts) ≡ joined (value_of values r) (run values Counts ts)
        → run values Counts (Choose name ∷ (flat f ++ behind_full)) ≡ joined (joined (chosen (values name) (value_of values f) (value_of values e)) (value_of values r)) (run values Counts ts)
    by_name (Ok []) is full empty rest =
        rw is (joined_nothing _ ∙ skip_first values 0 f behind_full ∙ joined_nothing _ ∙ empty ∙ ap (joined (value_of values e)) (joined_nothing _ ∙ rest)
        ∙ sym (joined_assoc (value_of values e) (value_of values r) (run values Counts ts)))
    by_name (Ok (b ∷ bytes)) is full empty rest =
        rw is (joined_nothing _ ∙ full ∙ ap (joined (value_of values f)) (joined_nothing _ ∙ over_second ∙ rest)
        ∙ sym (joined_assoc (value_of values f) (value_of values r) (run values Counts ts)))
    by_name (Err flaw) is full empty rest =
        rw is (ap (joined (Err flaw)) (skip_second values 0 f behind_full ∙ joined_nothing _ ∙ over_second ∙ rest)
        ∙ sym (joined_assoc (Err flaw) (value_of values r) (run values Counts ts)))
