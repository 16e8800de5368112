use Rattle.std.proofs.Common.{◌≢◌, ℕ}
use Rattle.pf_base.specs.declared.text.logical.TextFault.TheVariants.{Continuation, NoMemory}
use Rattle.pf_cidr.proofs.FaultLemmas.{continued, table_of_lines}
use Rattle.pf_cidr.proofs.table.CidrTable.read.Goals as goal

continuation_is_not_memory : (line : ℕ) → Continuation line ≢ NoMemory
continuation_is_not_memory line e = cc

pub returns-in-Err-Continuation : goal.returns-in-Err-Continuation
returns-in-Err-Continuation c = λ memory.
    let lines = rw c.in-Err-Continuation.field-0-is at c.in-Err-Continuation.ensures in
    rw (c.refused.ensures memory, continued c.args.file.now c.args.text.now c.in-Err-Continuation.line (lines (continuation_is_not_memory c.in-Err-Continuation.line)))

pub returns-in-Ok : goal.returns-in-Ok
returns-in-Ok c = rw (table_of_lines c.args.file.now c.args.text.now _ c.in-Ok.ensures) (rw c.as_slice.ensures at c.table_of.ensures)
