use Rattle.std.proofs.Common.{None, ◌+◌, drop, ap, arith}
use Rattle.std.proofs.lemmas.List.{drop_all}
use Rattle.std.proofs.lemmas.Result.{err_from_is_err_and}
use Rattle.pf_maps.proofs.TurnLaws.{text_at, up_to_break, up_to_end, up_to_next, up_to_none, up_to_starved, up_to_stop}
use Rattle.pf_maps.specs.Opening.{in_turn, text_table_opened}
use Rattle.pf_maps.proofs.opening.open_tables.Goals as goal

pub loop-place-init : goal.loop-place-init
loop-place-init g c = rw c.new-tables.ensures (up_to_none _ _ _)

pub returns-in_default : goal.returns-in_default
returns-in_default g c = up_to_break c.loop-place.invariant

pub returns-in_default-push : goal.returns-in_default-push
returns-in_default-push g c =
    up_to_starved (λ all. text_table_opened all c.args.folded c.args.specs.now.file) (record { line = c.line.result; text = c.text.result.now }) c.in_ok-table.table
    c.loop-place.invariant (rw (c.in-Ok.ensures, c.file.ensures, c.as_slice.ensures) at c.in_ok-table.ensures)

pub returns : goal.returns
returns g c =
    up_to_end c.loop-place.invariant (λ all. ap (in_turn (text_table_opened all c.args.folded c.args.specs.now.file) None)
    (drop_all c.loop-place.place c.args.specs.now.texts (omega (arith, c.loop-place-test.false, c.loop-place.auto.place-end, c.len-place-end.ensures))))

pub returns-in_err-table : goal.returns-in_err-table
returns-in_err-table g c =
    let p = err_from_is_err_and c.from_residual.result c.from_residual.ensures.1 in
    rw (p.1, p.2) (up_to_stop (λ all. text_table_opened all c.args.folded c.args.specs.now.file) (record { line = c.line.result; text = c.text.result.now })
    (drop (c.loop-place.place + 1) c.args.specs.now.texts) _
    (rw (text_at c.args.specs.now.texts c.loop-place.place c.line.result c.text.result.now c.line.ensures c.text.ensures) at c.loop-place.invariant)
    (rw (c.in-Ok.ensures, c.file.ensures, c.as_slice.ensures) at c.in_err-table.ensures))

pub loop-place-preserved : goal.loop-place-preserved
loop-place-preserved g c =
    rw c.in-Ok-push.ensures.ok (up_to_next (λ all. text_table_opened all c.args.folded c.args.specs.now.file) (record { line = c.line.result; text = c.text.result.now })
    (drop (c.loop-place.place + 1) c.args.specs.now.texts) c.in_ok-table.table
    (rw (text_at c.args.specs.now.texts c.loop-place.place c.line.result c.text.result.now c.line.ensures c.text.ensures) at c.loop-place.invariant)
    (rw (c.in-Ok.ensures, c.file.ensures, c.as_slice.ensures) at c.in_ok-table.ensures))
