use Rattle.std.proofs.Common.{[], ◌∷◌, ◌∙◌}
use Rattle.std.proofs.lemmas.Result.{err_from_is_err_and}
use Rattle.pf_base.proofs.PrefixLemmas.{prefix_of_longer, whole_prefix}
use Rattle.pf_base.specs.Text.Printing.{printed, printed_line}
use Rattle.pf_base.proofs.text.printing.add_line.Goals as goal

pub returns-in_err-add_printed-clause-err : goal.returns-in_err-add_printed-clause-err
unfolding printed_line
returns-in_err-add_printed-clause-err c =
    let p = err_from_is_err_and c.from_residual.result c.from_residual.ensures.1 in
    rw p.1 (prefix_of_longer c.args.text.now c.add_printed.new.text (printed c.args.bytes.now) (10 ∷ []) c.in_err-add_printed.ensures.err)

pub returns-in_err-push-clause-err : goal.returns-in_err-push-clause-err
unfolding printed_line
returns-in_err-push-clause-err c =
    let p = err_from_is_err_and c.from_residual-in_err-push.result c.from_residual-in_err-push.ensures.1 in
    rw p.1 (whole_prefix c.args.text.now c.push.new.self (printed c.args.bytes.now) (10 ∷ []) (c.in_err-push.ensures.err ∙ c.in_ok-add_printed.ensures.ok))
