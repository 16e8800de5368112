use Rattle.std.proofs.lemmas.Result.{err_from_is_err_and}
use Rattle.pf_asks.specs.Tries.{ok}
use Rattle.pf_class.proofs.AskingLaws.{fault_first, ok_first}
use Rattle.pf_class.proofs.MemberLaws.{hears_ok}
use Rattle.pf_class.specs.Members.{pattern_says, table_says}
use Rattle.pf_class.proofs.members.table_member.Goals as goal

pub returns-in_err-found : goal.returns-in_err-found
unfolding pattern_says
returns-in_err-found g c =
    let p = err_from_is_err_and c.from_residual.result c.from_residual.ensures.1 in
    rw (p.1, p.2) (fault_first _ _ _ (λ found. ok (table_says found)) _ (λ found. hears_ok (table_says found)) (rw c.as_slice.ensures at c.in_err-found.ensures))

pub returns : goal.returns
unfolding pattern_says
returns g c = rw c.table_says.ensures (ok_first _ _ _ (λ found. ok (table_says found)) _ (rw c.as_slice.ensures at c.in_ok-found.ensures))
