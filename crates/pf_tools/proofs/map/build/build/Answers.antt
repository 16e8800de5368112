use Rattle.std.proofs.lemmas.Result.{err_from_is_err_and}
use Rattle.pf_maps.proofs.OpenLaws.{opens_stop}
use Rattle.pf_maps.specs.Opening.{refusing}
use Rattle.pf_tools.proofs.BuiltLaws.{held_small, opens_made}
use Rattle.pf_tools.specs.Map.Built.{text_built}
use Rattle.pf_tools.proofs.map.build.build.Goals as goal

pub returns-in_err-text-clause-opens : goal.returns-in_err-text-clause-opens
returns-in_err-text-clause-opens g c =
    let p = err_from_is_err_and c.from_residual.result c.from_residual.ensures.1 in
    let opens = rw c.as_slice.ensures at (rw c.text_name-name.ensures at c.in_err-text.ensures.opens) in
    rw (p.1, p.2) (opens_stop (λ text. refusing (text_built c.args.words.now.table c.args.words.now.folded c.args.repeats c.args.warned text)) _ opens)

pub returns-clause-opens : goal.returns-clause-opens
returns-clause-opens g c =
    let opens = rw c.as_slice.ensures at (rw c.text_name-name.ensures at c.in_ok-text.ensures.opens) in
    rw c.held.ensures
    (opens_made (λ text. text_built c.args.words.now.table c.args.words.now.folded c.args.repeats c.args.warned text) c.in_ok-text.text c.text_built.result opens c.text_built.ensures)

pub returns-clause-small : goal.returns-clause-small
returns-clause-small g c =
    rw c.held.ensures
    (held_small c.args.words.now.table c.args.words.now.folded c.args.repeats c.args.warned c.in_ok-text.text c.text_built.result c.text_built.ensures)
