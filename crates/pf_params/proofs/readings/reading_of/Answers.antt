use Rattle.std.proofs.Common.{Err, sym, ap, ◌∙◌}
use Rattle.std.proofs.lemmas.Result.{IfOk-weaker}
use Rattle.pf_catalogue.specs.Clauses.RowsMeant.{row_meant}
use Rattle.pf_params.specs.Parameters.{reading_from, reading_of}
use Rattle.pf_params.proofs.readings.reading_of.Goals as goal

pub returns-in-Err : goal.returns-in-Err
unfolding reading_of
returns-in-Err c =
    ap Err c.cause_of.ensures
    ∙ ap (reading_from c.args.known.now (row_meant c.args.row)) (sym c.in-Err.is ∙ c.in_ok-flaw.ensures)

pub returns-in-Ok : goal.returns-in-Ok
unfolding reading_of
returns-in-Ok c =
    IfOk-weaker c.reading_with.result _ _ (λ reading is. is
    ∙ ap (reading_from c.args.known.now (row_meant c.args.row)) (sym c.in-Ok.is ∙ c.in_ok-flaw.ensures))
    c.reading_with.ensures
