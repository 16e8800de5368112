use Rattle.std.proofs.Common.{refl}
use Rattle.std.proofs.lemmas.Result.{err_from_is_err_and}
use Rattle.pf_maincf.specs.Edit.{edited}
use Rattle.pf_maincf.proofs.EditLaws.{edit_assigns}
use Rattle.pf_maincf.proofs.FaultLemmas.{edit_fault, there}
use Rattle.pf_maincf.proofs.maincf.MainCf.edit.Goals as goal

pub returns-in_err-conf-clause-is : goal.returns-in_err-conf-clause-is
unfolding edited
returns-in_err-conf-clause-is c =
    let p = err_from_is_err_and c.from_residual.result c.from_residual.ensures.1 in
    rw (p.1, p.2) (λ memory. edit_fault c.args.assignments.now c.args.text.now _ _ (c.in_err-conf.ensures memory))

pub returns-clause-is : goal.returns-clause-is
unfolding edited
returns-clause-is c = rw (there _ _ c.in_ok-conf.ensures, ← c.as_slice.ensures, c.in_ok-edited.ensures)

pub returns-clause-values : goal.returns-clause-values
unfolding edited
returns-clause-values c =
    edit_assigns c.args.file.now c.args.text.now c.in_ok-edited.edited c.args.assignments.now c.requires
    (rw (there _ _ c.in_ok-conf.ensures, ← c.as_slice.ensures, c.in_ok-edited.ensures) refl)
