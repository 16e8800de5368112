use Rattle.std.proofs.Common.{◌≡◌, Err}
use Rattle.std.proofs.lemmas.Result.{err_from_is_err_and}
use Rattle.pf_cdb.proofs.AddingLaws.{large_more}
use Rattle.pf_cdb.specs.declared.fault.WriteFault.TheVariants.{TooLarge}
use Rattle.pf_cdb.proofs.writing.with_all.Goals as goal

pub returns-in_err-writer-2-clause-large : goal.returns-in_err-writer-2-clause-large
returns-in_err-writer-2-clause-large c = λ e.
    let p = err_from_is_err_and c.from_residual-in_err-writer-2.result c.from_residual-in_err-writer-2.ensures.1 in
    let err : c.add.result ≡ Err TooLarge = cc (c.in_err-writer-2.was, p.1, p.2, e) in
    large_more c.args.entries.now c.loop-pair.writer c.loop-pair.pair-index c.pair-item.result c.as_slice.result.now c.as_slice-in-loop-pair.result.now
    c.loop-pair-test.true c.pair-item.is c.loop-pair.invariant c.as_slice.ensures c.as_slice-in-loop-pair.ensures (c.add.ensures.exact err)
