use Rattle.std.proofs.Common.{◌≡◌, ◌+◌, Err, drop, sym, ap, ◌∙◌, arith}
use Rattle.pf_catalogue.specs.Catalogue.{Row, catalogue, row_at}
use Rattle.pf_catalogue.specs.declared.count.TheConstants.{PARAMS}
use Rattle.pf_params.proofs.CatalogueLaws.{drop_row, ended}
use Rattle.pf_params.proofs.ReadingLaws.{read_last, read_next, refused_next}
use Rattle.pf_params.specs.Clauses.Readings.{before, readings_of}
use Rattle.pf_params.specs.Parameters.{refusal_of}
use Rattle.pf_params.proofs.readings.readings_of.Goals as goal

pub returns-in-Err : goal.returns-in-Err
returns-in-Err c =
    let s = c.args.known.now in
    let row = row_at c.loop-place.place in
    let rest = drop (c.loop-place.place + 1) catalogue in
    let refused = rw (c.in-Err.is, c.row-row.ensures, c.at.ensures) at c.in_ok-reading.ensures in
    ap Err (c.in_ok-refusal_of-in-Err.ensures ∙ ap (λ (r : Row). refusal_of s r.name c.in-Err.cause) (rw c.at.ensures at c.row-row.ensures))
    ∙ sym (refused_next s c.loop-place.readings row rest c.in-Err.cause (sym refused))
    ∙ ap (λ rows. before c.loop-place.readings (readings_of s rows)) (sym (drop_row c.loop-place.place c.loop-place-test.true))
    ∙ c.loop-place.invariant

pub loop-place-preserved : goal.loop-place-preserved
loop-place-preserved c =
    let s = c.args.known.now in
    let row = row_at c.loop-place.place in
    let rest = drop (c.loop-place.place + 1) catalogue in
    let there = rw (c.in-Ok.is, c.row-row.ensures, c.at.ensures) at c.in_ok-reading.ensures in
    ap (λ prefix. before prefix (readings_of s rest)) c.in_ok-push-in-Ok.ensures.ok
    ∙ read_next s c.loop-place.readings row rest c.in-Ok.reading (sym there)
    ∙ ap (λ rows. before c.loop-place.readings (readings_of s rows)) (sym (drop_row c.loop-place.place c.loop-place-test.true))
    ∙ c.loop-place.invariant

pub returns : goal.returns
returns c =
    let last : c.loop-place.place ≡ PARAMS = omega arith in
    sym (read_last c.args.known.now c.loop-place.readings (drop c.loop-place.place catalogue) (ap (λ n. drop n catalogue) last ∙ ended)) ∙ c.loop-place.invariant
