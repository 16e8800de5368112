use Rattle.std.proofs.lemmas.Result.{err_from_is_err_and}
use Rattle.pf_class.proofs.AskingLaws.{memory_first}
use Rattle.pf_class.proofs.LocalLaws.{hears_networks}
use Rattle.pf_class.specs.Classes.{in_networks}
use Rattle.pf_class.proofs.domains.Domains.in_networks.Goals as goal

pub returns-in_err-subject : goal.returns-in_err-subject
returns-in_err-subject g c =
    let p = err_from_is_err_and c.from_residual.result c.from_residual.ensures.1 in
    rw p.1 (memory_first _ (in_networks c.args.self.now c.args.address.now) p.0 (hears_networks c.args.self.now c.args.address.now) p.2)

pub returns : goal.returns
unfolding in_networks
returns g c = rw (c.as_slice.ensures, c.in_ok-subject.ensures) at c.is_member.ensures
