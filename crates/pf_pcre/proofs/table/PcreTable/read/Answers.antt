use Rattle.std.proofs.Common.{◌≢◌, ℕ}
use Rattle.pf_base.specs.declared.text.logical.TextFault.TheVariants.{Continuation, NoMemory}
use Rattle.pf_pcre.proofs.TableLemmas.{continued_table, once_in_text, table_in_text}
use Rattle.pf_pcre.proofs.table.PcreTable.read.Goals as goal

continuation_is_not_memory : (line : ℕ) → Continuation line ≢ NoMemory
continuation_is_not_memory line e = cc

pub returns-in-Err-Continuation-clause-is : goal.returns-in-Err-Continuation-clause-is
returns-in-Err-Continuation-clause-is c = λ memory.
    let lines = rw c.in-Err-Continuation.field-0-is at c.in-Err-Continuation.ensures in
    continued_table c.args.file.now c.args.text.now c.in-Err-Continuation.line c.refused.result (c.refused.ensures memory) (lines (continuation_is_not_memory c.in-Err-Continuation.line))

pub returns-in-Ok-clause-is : goal.returns-in-Ok-clause-is
returns-in-Ok-clause-is c =
    table_in_text c.args.file.now c.args.text.now _ c.in-Ok.ensures c.table_of.result (rw c.as_slice.ensures at c.table_of.ensures.is)

pub returns-in-Ok-clause-once : goal.returns-in-Ok-clause-once
returns-in-Ok-clause-once c = once_in_text c.args.file.now c.args.text.now _ c.in-Ok.ensures _ _ (rw c.as_slice.ensures at c.table_of.ensures.once)
