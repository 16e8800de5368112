-- What was heard of the calls of one object, in turn; and answers that are used again.
use Rattle.std.proofs.Common.{◌≡◌, ◌+◌, ◌++◌, ◌&&◌, ℕ, Bool, true, false, List, [], ◌∷◌, Option, None, Some, refl, sym, ap, ◌∙◌, subst, arith}
use Rattle.std.proofs.lemmas.Bool.{false≢true}
use Rattle.std.specs.Prelude.{cond, unwrap_or}
use Rattle.std.specs.List.{count_by, list_all}
use Rattle.std.proofs.lemmas.List.Folds.{list_all-append}
use Rattle.std.proofs.lemmas.List.Sums.{sum_by-append}
use Rattle.pf_base.specs.Outside.Counts.{counted_by}
use Rattle.pf_asks.specs.Clauses.Held.{Answered, Held, Hears, Holds, Tells, called, failures, is_failure, is_meant_or_failure}

pub counted_none : (n : ℕ) → n ≡ counted_by 0 n
counted_none n = omega arith

pub counted_more : (m n a b c : ℕ) → b ≡ counted_by m a → c ≡ counted_by n b → c ≡ counted_by (m + n) a
counted_more m n a b c first second = omega (arith, first, second)

-- a test that holds of some of these and some of those
pub count_more : {A : Type 0} (test : A → Bool) (xs ys : List A) (a b c : ℕ)
    → b ≡ counted_by (count_by test xs) a → c ≡ counted_by (count_by test ys) b → c ≡ counted_by (count_by test (xs ++ ys)) a
count_more test xs ys a b c first second =
    subst (λ n. c ≡ counted_by n a) (sym (sum_by-append (λ x. cond (test x) 1 0) xs ys))
    (counted_more (count_by test xs) (count_by test ys) a b c first second)

both : (a b : Bool) → a ≡ true → b ≡ true → (a && b) ≡ true
both a b first second = rw (first, second) refl

-- what an object means, it means after the call too
pub knows_kept : {C : Type 0} {old new : Option C} (meant : C) → new ≡ old → Tells old meant → Tells new meant
knows_kept meant kept knows = subst (λ content. Tells content meant) (sym kept) knows

pub hears_nothing : {C A : Type 0} {fails : A → Bool} (held : Held C) → Hears {A = A} fails held held []
hears_nothing held = record { kept = refl; faults = counted_none held.faults; only = λ content e. refl }

pub hears_more : {C A : Type 0} {fails : A → Bool} {a b c : Held C} {xs ys : List (Option A)}
    → Hears fails a b xs → Hears fails b c ys → Hears fails a c (xs ++ ys)
hears_more {fails = fails} {a} {b} {c} {xs} {ys} first second = record {
  kept = second.kept ∙ first.kept;
  faults = count_more (is_failure fails) xs ys a.faults b.faults c.faults first.faults second.faults;
  only = λ content e. list_all-append (is_meant_or_failure fails) xs ys
      ∙ both (list_all (is_meant_or_failure fails) xs) (list_all (is_meant_or_failure fails) ys) (first.only content e) (second.only content (first.kept ∙ e));
}

all_one : (b : Bool) → b ≡ true → (b && true) ≡ true
all_one b e = rw e refl

-- a call whose answer can be a failure only where that is heard
pub hears_call : {C A : Type 0} {fails : A → Bool} (old : Held C) (meant : C → A) (result : A) → ((known : C) → fails (meant known) ≡ false)
    → (known : C) → Tells old.content known → (answered : Answered fails old.content meant result)
    → Hears fails old (called (fails result) old) (answered.heard ∷ [])
hears_call {fails = fails} old meant result works known knows answered = record {
  kept = refl;
  faults = rose answered.heard (answered.is known knows);
  only = λ content e. all_one (is_meant_or_failure fails answered.heard) (answered.only content e);
}
  where
    alike : (answer : _) (b : Bool) → fails result ≡ b → fails answer ≡ b
        → counted_by (cond (fails result) 1 0) old.faults ≡ counted_by (failures fails (Some answer ∷ [])) old.faults
    alike answer true one other = rw (one, other) refl
    alike answer false one other = rw (one, other) refl

    rose : (heard : Option _) → result ≡ unwrap_or heard (meant known)
        → counted_by (cond (fails result) 1 0) old.faults ≡ counted_by (failures fails (heard ∷ [])) old.faults
    rose None is = rw (ap fails is ∙ works known) refl
    rose (Some answer) is = alike answer (fails answer) (ap fails is) refl

-- where the object is known and the answer is no failure, it was answered as meant
as_meant : {A : Type 0} (fails : A → Bool) (heard : Option A) (meant result : A) → is_meant_or_failure fails heard ≡ true
    → result ≡ unwrap_or heard meant → fails result ≡ false → result ≡ meant
as_meant fails None meant result only is works = is
as_meant fails (Some answer) meant result only is works = absurd (false≢true (sym works ∙ ap fails is ∙ only))

-- an answer that is no failure holds
pub holds_of : {C A : Type 0} {fails : A → Bool} {content : Option C} {meant : C → A} {result : A}
    → Answered fails content meant result → fails result ≡ false → Holds fails content meant result
holds_of {fails = fails} {content} {meant} {result} answered works = record {
  works = works;
  is = λ known e. as_meant fails answered.heard (meant known) result (answered.only known e) (answered.is known (subst (λ o. Tells o known) (sym e) refl)) works;
}

-- and it holds after other calls too
pub holds_kept : {C A : Type 0} {fails : A → Bool} {old new : Option C} {meant : C → A} {result : A}
    → new ≡ old → Holds fails old meant result → Holds fails new meant result
holds_kept kept holds = record { works = holds.works; is = λ known e. holds.is known (sym kept ∙ e) }

-- whoever asks again may be answered so, though no call was made: as meant where the object is known, and else by the answer that was had
again : {C A : Type 0} (fails : A → Bool) (content : Option C) (faults : ℕ) (meant : C → A) (result : A)
    → Holds fails content meant result
    → (heard : Option A) × Hears fails (record { content = content; faults = faults }) (record { content = content; faults = faults }) (heard ∷ [])
    × ((known : C) → Tells content known → result ≡ unwrap_or heard (meant known))
again fails None faults meant result holds = (
  Some result,
  record { kept = refl; faults = rw holds.works (omega arith); only = λ content e. cc },
  λ known knows. refl,
)
again fails (Some known) faults meant result holds = (
  None,
  record { kept = refl; faults = omega arith; only = λ content e. refl },
  λ other knows. holds.is other (ap Some knows),
)

pub heard_again : {C A : Type 0} {fails : A → Bool} (held : Held C) (meant : C → A) (result : A) → Holds fails held.content meant result
    → (heard : Option A) × Hears fails held held (heard ∷ []) × ((known : C) → Tells held.content known → result ≡ unwrap_or heard (meant known))
heard_again {fails = fails} held meant result holds = again fails held.content held.faults meant result holds
