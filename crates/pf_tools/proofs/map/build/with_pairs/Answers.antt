use Rattle.std.proofs.Common.{◌≡◌, Err}
use Rattle.std.proofs.lemmas.Result.{err_from_is_err_and}
use Rattle.pf_cdb.specs.declared.fault.WriteFault.TheVariants.{TooLarge}
use Rattle.pf_tools.proofs.BuiltLaws.{large_at}
use Rattle.pf_tools.proofs.map.build.with_pairs.Goals as goal

pub returns-in_err-writer-2-clause-large : goal.returns-in_err-writer-2-clause-large
returns-in_err-writer-2-clause-large c = λ e.
    let p = err_from_is_err_and c.from_residual-in_err-writer-2.result c.from_residual-in_err-writer-2.ensures.1 in
    let err : c.add.result ≡ Err TooLarge = cc (c.in_err-writer-2.was, p.1, p.2, e) in
    large_at c.args.text.now.pairs c.loop-i.writer c.loop-i.i _ _ c.at.ensures c.loop-i.invariant (c.add.ensures.exact err)
