use Rattle.std.proofs.Common.{refl}
use Rattle.std.proofs.lemmas.Result.{err_from_is_err_and}
use Rattle.pf_table.proofs.ReadingLemmas.{table_read}
use Rattle.pf_table.proofs.TextLemmas.{stays_fault, there}
use Rattle.pf_table.proofs.text.read_text.Goals as goal

pub returns-in_err-pairs : goal.returns-in_err-pairs
returns-in_err-pairs c =
    let p = err_from_is_err_and c.from_residual.result c.from_residual.ensures.1 in
    rw (p.1, p.2, table_read c.args.file.now c.args.folded c.args.repeats c.args.text.now) (λ memory. stays_fault _ _ _ (c.in_err-pairs.ensures memory))

pub returns : goal.returns
returns c =
    let entries = there _ _ c.in_ok-pairs.ensures in
    rw (table_read c.args.file.now c.args.folded c.args.repeats c.args.text.now, entries) refl
