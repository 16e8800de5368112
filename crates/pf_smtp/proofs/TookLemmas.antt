-- Two pieces give what their bytes in turn give.
use Rattle.std.proofs.Common.{◌≡◌, ℕ, true, false, List, [], ◌++◌, take, refl, sym, ap, ◌∙◌}
use Rattle.std.proofs.lemmas.Bool.{false≢true}
use Rattle.pf_base.proofs.KnownLemmas.{appended_more, appended_none}
use Rattle.pf_base.specs.Text.Lines.{lines, rest}
use Rattle.pf_base.specs.Clauses.Pieces.{unless_line}
use Rattle.pf_base.specs.Outside.Objects.{Sinks, appended, joined}
use Rattle.pf_smtp.proofs.PieceLemmas.{given_ended, texts-before}
use Rattle.pf_smtp.proofs.StepLemmas.{after, given-append, partial_after-append}
use Rattle.pf_smtp.specs.Clauses.Feeding.{Took, fresh, given, partial_after, texts_given}
use Rattle.pf_smtp.specs.Session.{before, stays, steps, texts_of}
use Rattle.pf_smtp.specs.declared.progress.Progress.{Progress}
use Rattle.pf_smtp.specs.declared.state.Setup.{Setup}

-- a session that has taken nothing
pub took_none : (known : Sinks) (setup : Setup) → Took known known (fresh setup) (fresh setup) []
unfolding steps lines
took_none known setup = record {
  sinks = sym (appended_none known);
  setup = refl;
  state = refl;
  partial = λ going. refl;
}

-- a session that has ended takes any bytes and says nothing
pub took_ended : (known : Sinks) (s : Progress) (ys : List ℕ) → s.state.ended ≡ true → Took known known s s ys
took_ended known s ys ended = record {
  sinks = sym (appended_none known) ∙ ap (λ g. appended known (texts_of s.setup g)) (sym (given_ended s ys ended));
  setup = refl;
  state = ap (λ g. g.next) (sym (given_ended s ys ended));
  partial = λ going. absurd (false≢true (sym going ∙ ended));
}

-- once it has ended, a session gives nothing, whatever it keeps of a line
given_same : (t u : Progress) (ys : List ℕ) → t.setup ≡ u.setup → t.state ≡ u.state → (t.state.ended ≡ false → t.partial ≡ u.partial) → given t ys ≡ given u ys
given_same t u ys setup state partial =
    (elim t.state.ended as (λ b. t.state.ended ≡ b → given t ys ≡ given u ys) [
      | true ↦ λ ended. given_ended t ys ended ∙ ap stays state ∙ sym (given_ended u ys (ap (λ x. x.ended) (sym state) ∙ ended))
      | false ↦ λ going. ap (λ x. given x ys) (same going)
    ]) refl
  where
    same : t.state.ended ≡ false → t ≡ u
    same going = rw (setup, state, partial going)

-- what bytes in turn give
pub given_more : {a b : Sinks} {s t : Progress} {xs : List ℕ} (ys : List ℕ) → Took a b s t xs → given s (xs ++ ys) ≡ before (given s xs) (given t ys)
given_more {s = s} {t = t} {xs = xs} ys first =
    given-append s xs ys ∙ ap (before (given s xs)) (sym (given_same t (after s xs) ys first.setup first.state first.partial))

pub texts_more : {a b : Sinks} {s t : Progress} {xs : List ℕ} (ys : List ℕ) → Took a b s t xs → texts_given s (xs ++ ys) ≡ joined (texts_given s xs) (texts_given t ys)
texts_more {s = s} {t = t} {xs = xs} ys first =
    ap (texts_of s.setup) (given_more ys first) ∙ texts-before s.setup (given s xs) (given t ys)
    ∙ ap (λ x. joined (texts_given s xs) (texts_of x (given t ys))) (sym first.setup)

-- two pieces give what their bytes in turn give
pub took_more : {a b c : Sinks} {s t u : Progress} {xs ys : List ℕ} → Took a b s t xs → Took b c t u ys → Took a c s u (xs ++ ys)
took_more {a} {b} {c} {s} {t} {u} {xs} {ys} first second = record {
  sinks = second.sinks ∙ ap (λ k. appended k (texts_given t ys)) first.sinks ∙ appended_more a (texts_given s xs) (texts_given t ys)
      ∙ ap (appended a) (sym (texts_more ys first));
  setup = second.setup ∙ first.setup;
  state = second.state ∙ ap (λ x. x.next) (sym (given_more ys first));
  partial = λ going. (elim t.state.ended as (λ b. t.state.ended ≡ b → u.partial ≡ partial_after s (xs ++ ys)) [
    | true ↦ λ e. absurd (false≢true (sym going ∙ ap (λ x. x.ended) (second.state ∙ ap (λ x. x.next) (given_ended t ys e)) ∙ e))
    | false ↦ λ e. second.partial going ∙ ap (λ p. take 2050 (unless_line (lines ys) (p ++ ys) (rest ys))) (first.partial e) ∙ sym (partial_after-append s xs ys)
  ]) refl;
}
