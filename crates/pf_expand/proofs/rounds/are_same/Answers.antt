use Rattle.std.proofs.Common.{◌≡◌, Decides, refl, sym, ap, ◌∙◌}
use Rattle.std.proofs.lemmas.Bool.Decides.{Decides-eqb}
use Rattle.std.proofs.lemmas.Slice.Eq.{slice_eq-Decides}
use Rattle.pf_expand.specs.contracts.flaw.FlawPartialEq.TheImpl as flaw
use Rattle.pf_expand.specs.contracts.size.SizePartialEq.TheImpl as size
use Rattle.pf_expand.specs.declared.flaw.Flaw.{Flaw}
use Rattle.pf_expand.specs.declared.flaw.Flaw.TheVariants.{BadForm, TooDeep, TooLong}
use Rattle.pf_expand.specs.declared.size.Size.{Size}
use Rattle.pf_expand.specs.declared.size.Size.TheVariants.{Long, Flawed}
use Rattle.pf_expand.proofs.rounds.are_same.Goals as goal

-- a test by `==`
flaw_test : (a b : Flaw) → Decides (flaw.eq-value.it a b) (a ≡ b)
flaw_test BadForm BadForm = (λ _. refl, λ _. refl)
flaw_test BadForm TooDeep = (λ e. cc, λ e. cc)
flaw_test BadForm TooLong = (λ e. cc, λ e. cc)
flaw_test TooDeep BadForm = (λ e. cc, λ e. cc)
flaw_test TooDeep TooDeep = (λ _. refl, λ _. refl)
flaw_test TooDeep TooLong = (λ e. cc, λ e. cc)
flaw_test TooLong BadForm = (λ e. cc, λ e. cc)
flaw_test TooLong TooDeep = (λ e. cc, λ e. cc)
flaw_test TooLong TooLong = (λ _. refl, λ _. refl)

size_test : (a b : Size) → Decides (size.eq-value.it a b) (a ≡ b)
size_test (Long a) (Long b) = (λ e. ap Long ((Decides-eqb a b).0 e), λ e. (Decides-eqb a b).1 (cc))
size_test (Long a) (Flawed b) = (λ e. cc, λ e. cc)
size_test (Flawed a) (Long b) = (λ e. cc, λ e. cc)
size_test (Flawed a) (Flawed b) = (λ e. ap Flawed ((flaw_test a b).0 e), λ e. (flaw_test a b).1 (cc))

pub returns-then-eq : goal.returns-then-eq
returns-then-eq c =
    let absent = (size_test c.args.first.now.absent c.args.second.now.absent).0 (sym c.eq.ensures ∙ c.if-eq.true) in
    let named = slice_eq-Decides size_test _ _ _ (rw (c.as_slice.ensures, c.as_slice-then-eq.ensures) at c.eq-then-eq.ensures) in
    (λ is. (named.0 is, absent), λ same. named.1 same.0)
