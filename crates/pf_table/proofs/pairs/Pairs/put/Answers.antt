use Rattle.std.proofs.Common.{sym, ◌∙◌}
use Rattle.std.proofs.lemmas.Result.{on_ok_weaker}
use Rattle.pf_table.proofs.IndexLaws.{first_stays, last_replaces}
use Rattle.pf_table.proofs.pairs.Pairs.put.Goals as goal

pub returns-in-First : goal.returns-in-First
returns-in-First c = rw c.in-First.is (sym (first_stays c.args.self.now (record { key = c.args.key.now; value = c.args.value.now }) c.args.i c.requires))

pub returns-in-Last : goal.returns-in-Last
returns-in-Last c =
    rw c.in-Last.is
    (on_ok_weaker c.replace.result (λ e. e ∙ sym (last_replaces c.args.self.now (record { key = c.args.key.now; value = c.args.value.now }) c.args.i c.requires)) c.replace.ensures)
