use Rattle.std.proofs.Common.{◌++◌, length, sym, ap, ◌∙◌, refl, arith, length-append}
use Rattle.std.proofs.lemmas.List.{take_at}
use Rattle.std.proofs.lemmas.Result.{err_from_is_err_and}
use Rattle.pf_table.proofs.pairs.add_bytes.Goals as goal

pub returns-in_err-extend_from_slice-2-clause-err : goal.returns-in_err-extend_from_slice-2-clause-err
returns-in_err-extend_from_slice-2-clause-err c =
    let p = err_from_is_err_and c.from_residual-in_err-extend_from_slice-2.result c.from_residual-in_err-extend_from_slice-2.ensures.1 in
    rw p.1 (record {
      count = length c.args.key.now;
      within = omega (arith, length-append c.args.key.now c.args.value.now);
      is =
          c.in_err-extend_from_slice-2.ensures.items
          ∙ c.in_ok-extend_from_slice.ensures.items
          ∙ ap (λ part. c.args.bytes.now.items ++ part) (sym (take_at c.args.key.now c.args.value.now (length c.args.key.now) refl));
    })
