use Rattle.std.proofs.Common.{◌≡◌, ap, ◌∙◌, arith, refl}
use Rattle.pf_base.specs.declared.refused.Cause.TheVariants.{C11}
use Rattle.pf_base.specs.declared.refused.ConfFault.TheVariants.{Refused}
use Rattle.pf_pcre.specs.Tables.{reason_text, refused}
use Rattle.pf_pcre.proofs.TableLemmas.{counts_at, later, leaves_at, none_counted, refused_counts, refused_once, refused_table, finished_counts, finished_table}
use Rattle.pf_pcre.proofs.TakingLaws.{led_first, taken_at}
use Rattle.pf_pcre.proofs.table.table_of.Goals as goal

pub returns-in-Err-Refused-clause-is : goal.returns-in-Err-Refused-clause-is
returns-in-Err-Refused-clause-is c = λ memory.
    let leaves = leaves_at c.loop-logical.reading c.take.new.self c.logical-item.result.line c.as_slice.result.now c.in-Err-Refused.field-0 c.in-Err-Refused.reason c.in-Err-Refused.field-0-is c.in-Err-Refused.ensures.is in
    let taken = rw c.as_slice.ensures at leaves in
    let named : c.text.result.now ≡ reason_text c.in-Err-Refused.reason = rw c.in-Err-Refused.reason-is at c.text.ensures in
    refused_table c.args.file.now c.args.lines.now c.loop-logical.reading c.loop-logical.logical-index c.logical-item.result c.in-Err-Refused.reason
    (omega arith) c.logical-item.is c.loop-logical.invariant.led taken c.refused.result
    (c.refused.ensures memory ∙ ap (λ name. Refused (refused c.args.file.now c.logical-item.result.line C11 name)) named)

pub returns-in-Err-Refused-clause-counts : goal.returns-in-Err-Refused-clause-counts
returns-in-Err-Refused-clause-counts c = λ memory.
    let counted = counts_at _ _ c.in-Err-Refused.field-0 c.in-Err-Refused.reason c.in-Err-Refused.field-0-is c.in-Err-Refused.ensures.counts in
    let named : c.text.result.now ≡ reason_text c.in-Err-Refused.reason = rw c.in-Err-Refused.reason-is at c.text.ensures in
    refused_counts c.args.file.now c.logical-item.result.line c.in-Err-Refused.reason c.refused.result _ _ _
    (c.refused.ensures memory ∙ ap (λ name. Refused (refused c.args.file.now c.logical-item.result.line C11 name)) named) counted c.loop-logical.invariant.same

pub returns-in-Err-Refused-clause-later : goal.returns-in-Err-Refused-clause-later
returns-in-Err-Refused-clause-later c =
    let counted = counts_at _ _ c.in-Err-Refused.field-0 c.in-Err-Refused.reason c.in-Err-Refused.field-0-is c.in-Err-Refused.ensures.counts in
    later _ _ _ _ counted c.loop-logical.invariant.same

pub returns-in-Err-Refused-clause-once : goal.returns-in-Err-Refused-clause-once
returns-in-Err-Refused-clause-once c =
    let leaves = leaves_at c.loop-logical.reading c.take.new.self c.logical-item.result.line c.as_slice.result.now c.in-Err-Refused.field-0 c.in-Err-Refused.reason c.in-Err-Refused.field-0-is c.in-Err-Refused.ensures.is in
    let taken = rw c.as_slice.ensures at leaves in
    let counted = counts_at _ _ c.in-Err-Refused.field-0 c.in-Err-Refused.reason c.in-Err-Refused.field-0-is c.in-Err-Refused.ensures.counts in
    refused_once c.args.file.now c.args.lines.now c.loop-logical.reading c.loop-logical.logical-index c.logical-item.result c.in-Err-Refused.reason _ _ _
    (omega arith) c.logical-item.is c.loop-logical.invariant.led taken counted c.loop-logical.invariant.same

pub returns-clause-is : goal.returns-clause-is
returns-clause-is c =
    finished_table c.args.file.now c.args.lines.now c.loop-logical.reading c.loop-logical.logical-index (omega arith) c.loop-logical.invariant.led c.finish.result c.finish.ensures

pub returns-clause-counts : goal.returns-clause-counts
returns-clause-counts c =
    finished_counts c.args.file.now c.loop-logical.reading _ _ c.loop-logical.invariant.same c.finish.result c.finish.ensures

pub loop-logical-init : goal.loop-logical-init
loop-logical-init c = record { led = rw c.new-reading.ensures (led_first c.args.lines.now); same = refl }

pub loop-logical-preserved : goal.loop-logical-preserved
loop-logical-preserved c =
    let taken = rw c.as_slice.ensures at c.in-Ok.ensures.is in
    record {
      led = taken_at c.args.lines.now c.loop-logical.reading c.take.new.self c.loop-logical.logical-index c.logical-item.result (omega arith) c.logical-item.is taken c.loop-logical.invariant.led;
      same = none_counted _ _ c.in-Ok.ensures.counts ∙ c.loop-logical.invariant.same;
    }
