use Rattle.std.proofs.lemmas.Result.{err_from_is_err_and}
use Rattle.std.specs.Option.{option_map}
use Rattle.pf_asks.specs.Tries.{ok}
use Rattle.pf_class.proofs.AskingLaws.{fault_first, ok_first}
use Rattle.pf_class.proofs.MemberLaws.{hears_ok}
use Rattle.pf_class.specs.Members.{item_says, pattern_says, turned}
use Rattle.pf_class.proofs.members.item_says.Goals as goal

pub returns-in_err-says : goal.returns-in_err-says
unfolding item_says
returns-in_err-says g c =
    let p = err_from_is_err_and c.from_residual.result c.from_residual.ensures.1 in
    rw (p.1, p.2) (fault_first _ _ (pattern_says c.args.item.now.pattern c.args.subject.now) (λ says. ok (option_map (turned c.args.item.now.excludes) says)) _
    (λ says. hears_ok _) c.in_err-says.ensures)

pub returns : goal.returns
unfolding item_says
returns g c =
    rw c.turned.ensures (ok_first _ _ (pattern_says c.args.item.now.pattern c.args.subject.now) (λ says. ok (option_map (turned c.args.item.now.excludes) says)) _
    c.in_ok-says.ensures)
