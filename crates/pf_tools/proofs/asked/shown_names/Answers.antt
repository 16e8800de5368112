use Rattle.std.proofs.Common.{sym, subst, ◌∙◌}
use Rattle.std.proofs.lemmas.Result.{IfOk-weaker}
use Rattle.pf_tools.specs.Asked.{names_of}
use Rattle.pf_tools.specs.Clauses.Ordering.{put_in_order}
use Rattle.pf_tools.specs.Order.{IsInOrder}
use Rattle.pf_tools.proofs.asked.shown_names.Goals as goal

pub returns : goal.returns
returns c =
    let all = names_of c.args.mode c.args.known.now in
    record { order = IfOk-weaker c.into_list.result _ _ (λ list is. subst (IsInOrder all) (sym (is ∙ c.in_ok-names.ensures)) (put_in_order all)) c.into_list.ensures }
