use Rattle.std.proofs.Common.{◌∙◌}
use Rattle.std.proofs.lemmas.Result.{err_from_is_err_and}
use Rattle.pf_base.proofs.PrefixLemmas.{parts_prefix}
use Rattle.pf_base.proofs.bytes.Bytes.extend_all.Goals as goal

pub returns-in_err-extend-clause-err : goal.returns-in_err-extend-clause-err
returns-in_err-extend-clause-err c =
    let p = err_from_is_err_and c.from_residual.result c.from_residual.ensures.1 in
    rw p.1 (parts_prefix (λ part. part.now) c.args.self.now c.extend.new.self c.args.parts.now c.loop-part.part-index (c.in_err-extend.ensures.err ∙ c.loop-part.invariant))
