use Rattle.std.proofs.Common.{◌∙◌}
use Rattle.std.proofs.lemmas.Result.{err_from_is_err_and}
use Rattle.pf_base.proofs.PrefixLemmas.{printed_prefix}
use Rattle.pf_base.proofs.text.printing.add_printed.Goals as goal

pub returns-in_err-push-clause-err : goal.returns-in_err-push-clause-err
returns-in_err-push-clause-err c =
    let p = err_from_is_err_and c.from_residual.result c.from_residual.ensures.1 in
    rw p.1 (printed_prefix c.args.text.now c.push.new.self c.args.bytes.now c.loop-b.b-index (c.in_err-push.ensures.err ∙ c.loop-b.invariant))
