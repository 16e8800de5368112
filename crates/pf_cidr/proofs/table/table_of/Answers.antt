use Rattle.std.proofs.Common.{◌≡◌, Err, ap, ◌∙◌, arith}
use Rattle.pf_base.specs.declared.refused.Cause.TheVariants.{C11}
use Rattle.pf_base.specs.declared.refused.ConfFault.TheVariants.{Refused}
use Rattle.pf_cidr.specs.Tables.{reason_text, refused}
use Rattle.pf_cidr.proofs.CountLaws.{takes_counted}
use Rattle.pf_cidr.proofs.TakingLaws.{all_taken, refused_at, taken_at}
use Rattle.pf_cidr.proofs.table.table_of.Goals as goal

pub returns-in-Err-Refused : goal.returns-in-Err-Refused
returns-in-Err-Refused c = λ memory.
    let taken = rw (c.in-Err-Refused.field-0-is, c.as_slice.ensures) at c.in-Err-Refused.ensures in
    let table = refused_at c.args.lines.now c.loop-logical.reading c.loop-logical.logical-index c.logical-item.result c.in-Err-Refused.reason (omega arith) c.logical-item.is c.loop-logical.invariant.0 taken in
    let named : c.text.result.now ≡ reason_text c.in-Err-Refused.reason = rw c.in-Err-Refused.reason-is at c.text.ensures in
    rw (c.refused.ensures memory, table) (ap (λ name. Err (Refused (refused c.args.file.now c.logical-item.result.line C11 name))) named)

pub returns : goal.returns
returns c =
    rw (all_taken c.args.lines.now c.loop-logical.reading c.loop-logical.logical-index (omega arith) c.loop-logical.invariant.0) c.finish.ensures

pub loop-logical-preserved : goal.loop-logical-preserved
loop-logical-preserved c =
    let taken = rw c.as_slice.ensures at c.in-Ok.ensures in (
      c.loop-logical.invariant.0
          ∙ taken_at c.args.lines.now c.loop-logical.reading c.take.new.self c.loop-logical.logical-index c.logical-item.result (omega arith) c.logical-item.is taken,
      takes_counted c.loop-logical.reading c.take.new.self c.logical-item.result.line c.logical-item.result.text taken c.loop-logical.invariant.1,
    )
