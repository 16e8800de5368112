use Rattle.std.proofs.lemmas.Result.{err_from_is_err_and}
use Rattle.pf_tools.proofs.StreamLaws.{distinct_built, refused_built}
use Rattle.pf_tools.proofs.map.build.lines_built.Goals as goal

pub returns-in_err-with_lines-clause-err : goal.returns-in_err-with_lines-clause-err
returns-in_err-with_lines-clause-err c =
    let p = err_from_is_err_and c.from_residual.result c.from_residual.ensures.1 in
    let err = rw c.text_name.ensures at c.in_err-with_lines.ensures.err in
    rw (p.1, p.2) (λ memory repeats warned. refused_built c.args.table.now c.args.folds repeats warned c.args.text.now _ (err memory))

pub returns-else-written-clause-built : goal.returns-else-written-clause-built
returns-else-written-clause-built c = λ repeats warned.
    let all = rw (c.in-Some.is, c.text_name.ensures) at c.in_ok-with_lines.ensures.all in
    let single = c.in_ok-written-in-Some.ensures.single c.if-written.false in
    rw (c.in_ok-written-in-Some.ensures.file, c.new.ensures)
    (distinct_built c.args.table.now c.args.folds repeats warned c.args.text.now c.in-Some.writer all single c.finish.ensures.fits)
