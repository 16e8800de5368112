use Rattle.pf_cdb.proofs.AddingLaws.{prefix_new}
use Rattle.pf_cdb.proofs.writer.Writer.new.Goals as goal

pub invariant_of-result : goal.invariant_of-result
invariant_of-result c = rw c.new.ensures.items (prefix_new c.in_ok-file.file c.in_ok-file.ensures)
