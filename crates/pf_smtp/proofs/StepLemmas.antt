-- Lemmas on steps: two in turn, a session that has ended, and lines of which only a prefix was kept.
use Rattle.std.proofs.Common.{◌≡◌, ℕ, ◌-◌, ◌<◌, ◌≤◌, true, false, List, [], ◌∷◌, ◌++◌, length, take, slice_index, refl, sym, ap, ◌∙◌, arith, append_assoc, inl, inr, if◌then◌else◌, eqb, length-take}
use Rattle.std.proofs.lemmas.List.{take_all, length-take-le, take-take, take-append-le}
use Rattle.std.proofs.lemmas.Bool.{lt-ltb, cases_lt}
use Rattle.pf_base.specs.Text.Lines.{lines, rest, without_return}
use Rattle.pf_base.specs.Clauses.Pieces.{onto_line, unless_line}
use Rattle.pf_base.specs.Outside.Counts.{counted}
use Rattle.pf_base.proofs.LineEnds.{lines-append, rest-append, rest_of_none}
use Rattle.pf_smtp.specs.Clauses.Feeding.{given, partial_after}
use Rattle.pf_smtp.specs.Session.{stays, before, steps}
use Rattle.pf_smtp.specs.Step.{Step, says, step}
use Rattle.pf_smtp.specs.declared.reply.LineReply.TheVariants.{TooLong}
use Rattle.pf_smtp.specs.declared.reply.Reply.TheVariants.{Line}
use Rattle.pf_smtp.specs.declared.progress.Progress.{Progress}
use Rattle.pf_smtp.specs.declared.state.Setup.{Setup}
use Rattle.pf_smtp.specs.declared.state.State.{State}

pub before_assoc : (a b c : Step) → before (before a b) c ≡ before a (before b c)
before_assoc a b c = rw (append_assoc a.replies b.replies c.replies, append_assoc a.records b.records c.records, append_assoc a.entries b.entries c.entries)

-- nothing comes after the line that ends a session
pub steps_ended : (setup : Setup) (state : State) (ls : List (List ℕ)) → state.ended ≡ true → steps setup state ls ≡ stays state
unfolding steps
steps_ended setup state [] e = refl
steps_ended setup state (l ∷ ls) e = rw e

steps_more : (setup : Setup) (state : State) (l : List ℕ) (ls : List (List ℕ)) → state.ended ≡ false → steps setup state (l ∷ ls) ≡ before (step setup state l) (steps setup (step setup state l).next ls)
unfolding steps
steps_more setup state l ls e = rw e

-- lines in turn give what the first of them give, and then what the others give
pub steps-append : (setup : Setup) (state : State) (xs ys : List (List ℕ)) → steps setup state (xs ++ ys) ≡ before (steps setup state xs) (steps setup (steps setup state xs).next ys)
unfolding steps
steps-append setup state [] ys = refl
steps-append setup state (x ∷ xs) ys =
    (elim state.ended as (λ b. state.ended ≡ b →
    (if b then stays state else before (step setup state x) (steps setup (step setup state x).next (xs ++ ys)))
    ≡ before (if b then stays state else before (step setup state x) (steps setup (step setup state x).next xs))
    (steps setup (if b then stays state else before (step setup state x) (steps setup (step setup state x).next xs)).next ys)) [
      | true ↦ λ e. sym (ap (before (stays state)) (steps_ended setup state ys e))
      | false ↦ λ e.
          let next = (step setup state x).next in
          ap (before (step setup state x)) (steps-append setup next xs ys)
          ∙ sym (before_assoc (step setup state x) (steps setup next xs) (steps setup (steps setup next xs).next ys))
    ]) refl

-- a line that is too long is one when it is cut after 2,050 bytes
too_long : (raw : List ℕ) → 2050 ≤ length raw → 2048 < length (without_return raw)
too_long raw h =
    elim (eqb (slice_index raw (length raw - 1)) 13) as (λ b. 2048 < length (if b then take (length raw - 1) raw else raw)) [
      | true ↦ omega (arith, length-take (length raw - 1) raw)
      | false ↦ omega arith
    ]

long_step : (setup : Setup) (state : State) (raw : List ℕ) → 2050 ≤ length raw → step setup state raw ≡ says (Line TooLong) (record state { line = counted state.line })
unfolding step
long_step setup state raw h = rw (lt-ltb 2048 (length (without_return raw)) (too_long raw h))

-- 2,050 bytes of a line tell what its step is
pub step_kept : (setup : Setup) (state : State) (raw : List ℕ) → step setup state (take 2050 raw) ≡ step setup state raw
step_kept setup state raw =
    elim (cases_lt (length raw) 2050) [
      | inl short ↦ ap (step setup state) (take_all 2050 raw (omega (arith, short)))
      | inr long ↦ long_step setup state (take 2050 raw) (omega (arith, length-take-le 2050 raw long)) ∙ sym (long_step setup state raw long)
    ]

-- the prefix of a text does not depend on what was cut after the prefix of its first part
take_prefix : (n : ℕ) (p l : List ℕ) → take n (take n p ++ l) ≡ take n (p ++ l)
take_prefix n p l =
    elim (cases_lt (length p) n) [
      | inl short ↦ ap (λ q. take n (q ++ l)) (take_all n p (omega (arith, short)))
      | inr long ↦
          take-append-le n (take n p) l (omega (arith, length-take-le n p long)) ∙ take-take n n p (omega arith) ∙ sym (take-append-le n p l long)
    ]

step_partial : (setup : Setup) (state : State) (p l : List ℕ) → step setup state (take 2050 p ++ l) ≡ step setup state (p ++ l)
step_partial setup state p l =
    sym (step_kept setup state (take 2050 p ++ l)) ∙ ap (step setup state) (take_prefix 2050 p l) ∙ step_kept setup state (p ++ l)

-- the lines that begin with what was kept of a partial line give what they give with all of it
pub steps_partial : (setup : Setup) (state : State) (p : List ℕ) (ls : List (List ℕ)) → steps setup state (onto_line (take 2050 p) ls) ≡ steps setup state (onto_line p ls)
unfolding steps
steps_partial setup state p [] = refl
steps_partial setup state p (l ∷ ls) = ap (λ s. if state.ended then stays state else before s (steps setup s.next ls)) (step_partial setup state p l)

pub onto_line_nothing : (ls : List (List ℕ)) → onto_line [] ls ≡ ls
onto_line_nothing [] = refl
onto_line_nothing (l ∷ ls) = refl

onto_line-onto_line : (p q : List ℕ) (ls : List (List ℕ)) → onto_line p (onto_line q ls) ≡ onto_line (p ++ q) ls
onto_line-onto_line p q [] = refl
onto_line-onto_line p q (l ∷ ls) = ap (λ m. m ∷ ls) (sym (append_assoc p q l))

onto_line-append : (p xs : List ℕ) (L : List (List ℕ)) (R : List ℕ) (Y : List (List ℕ)) → (L ≡ [] → R ≡ xs)
    → onto_line p (L ++ onto_line R Y) ≡ onto_line p L ++ onto_line (unless_line L (p ++ xs) R) Y
onto_line-append p xs [] R Y h = ap (λ r. onto_line p (onto_line r Y)) (h refl) ∙ onto_line-onto_line p xs Y
onto_line-append p xs (l ∷ ls) R Y h = refl

-- the progress of a session after bytes
abbrev pub after : Progress → List ℕ → Progress
after s xs = record { setup = s.setup; state = (given s xs).next; partial = partial_after s xs }

-- bytes in turn give what the first of them give, and what the others give from there
pub given-append : (s : Progress) (xs ys : List ℕ) → given s (xs ++ ys) ≡ before (given s xs) (given (after s xs) ys)
given-append s xs ys =
    let partial = unless_line (lines xs) (s.partial ++ xs) (rest xs) in
    ap (λ l. steps s.setup s.state (onto_line s.partial l)) (lines-append xs ys)
    ∙ ap (steps s.setup s.state) (onto_line-append s.partial xs (lines xs) (rest xs) (lines ys) (rest_of_none xs))
    ∙ steps-append s.setup s.state (onto_line s.partial (lines xs)) (onto_line partial (lines ys))
    ∙ ap (before (given s xs)) (sym (steps_partial s.setup (given s xs).next partial (lines ys)))

partial_seam : (p xs ys : List ℕ) (L : List (List ℕ)) (R : List ℕ) (Y : List (List ℕ)) (Q : List ℕ)
    → unless_line (L ++ onto_line R Y) (p ++ (xs ++ ys)) (unless_line Y (R ++ ys) Q) ≡ unless_line Y (unless_line L (p ++ xs) R ++ ys) Q
partial_seam p xs ys [] R [] Q = sym (append_assoc p xs ys)
partial_seam p xs ys [] R (y ∷ Y) Q = refl
partial_seam p xs ys (l ∷ ls) R Y Q = refl

partial_prefix : (U ys : List ℕ) (Y : List (List ℕ)) (Q : List ℕ) → take 2050 (unless_line Y (take 2050 U ++ ys) Q) ≡ take 2050 (unless_line Y (U ++ ys) Q)
partial_prefix U ys [] Q = take_prefix 2050 U ys
partial_prefix U ys (y ∷ Y) Q = refl

pub partial_after-append : (s : Progress) (xs ys : List ℕ) → partial_after s (xs ++ ys) ≡ partial_after (after s xs) ys
partial_after-append s xs ys =
    let partial = unless_line (lines xs) (s.partial ++ xs) (rest xs) in
    ap (λ l. take 2050 (unless_line l (s.partial ++ (xs ++ ys)) (rest (xs ++ ys)))) (lines-append xs ys)
    ∙ ap (λ r. take 2050 (unless_line (lines xs ++ onto_line (rest xs) (lines ys)) (s.partial ++ (xs ++ ys)) r)) (rest-append xs ys)
    ∙ ap (take 2050) (partial_seam s.partial xs ys (lines xs) (rest xs) (lines ys) (rest ys))
    ∙ sym (partial_prefix partial ys (lines ys) (rest ys))
