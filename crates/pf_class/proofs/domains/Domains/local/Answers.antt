use Rattle.std.proofs.lemmas.Result.{err_from_is_err_and}
use Rattle.std.specs.Prelude.{◌||◌}
use Rattle.pf_asks.specs.Tries.{ok}
use Rattle.pf_class.proofs.AskingLaws.{fault_first, memory_first, ok_first}
use Rattle.pf_class.proofs.LocalLaws.{hears_local}
use Rattle.pf_class.proofs.MemberLaws.{hears_ok}
use Rattle.pf_class.specs.Local.{is_local, is_own_literal}
use Rattle.pf_class.proofs.domains.Domains.local.Goals as goal

pub returns-in_err-subject : goal.returns-in_err-subject
returns-in_err-subject g c =
    let p = err_from_is_err_and c.from_residual.result c.from_residual.ensures.1 in
    rw p.1 (memory_first _ (is_local c.args.self.now c.args.domain.now) p.0 (hears_local c.args.self.now c.args.domain.now) p.2)

pub returns-in_err-listed : goal.returns-in_err-listed
unfolding is_local
returns-in_err-listed g c =
    let p = err_from_is_err_and c.from_residual-in_err-listed.result c.from_residual-in_err-listed.ensures.1 in
    rw (p.1, p.2) (fault_first _ _ _ (λ listed. ok (listed || is_own_literal c.args.self.now.own c.args.domain.now)) _ (λ listed. hears_ok _)
    (rw (c.as_slice.ensures, c.in_ok-subject.ensures) at c.in_err-listed.ensures))

pub returns : goal.returns
unfolding is_local
returns g c =
    rw (c.listed_or_own.ensures, c.as_slice-2.ensures) (ok_first _ _ _ (λ listed. ok (listed || is_own_literal c.args.self.now.own c.args.domain.now)) _
    (rw (c.as_slice.ensures, c.in_ok-subject.ensures) at c.in_ok-listed.ensures))
