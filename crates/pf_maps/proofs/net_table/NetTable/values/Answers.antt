use Rattle.pf_table.proofs.PlaceLemmas.{take_pushed}
use Rattle.pf_maps.proofs.net_table.NetTable.values.Goals as goal

pub loop-rule-preserved : goal.loop-rule-preserved
loop-rule-preserved c = (
  rw (c.in_ok-push.ensures.ok, c.in_ok-copy.ensures)
      (take_pushed c.args.self.now.results _ c.loop-rule.rule _ c.loop-rule.invariant.0 (rw c.self.view_is at c.result.ensures)),
  c.loop-rule.invariant.1,
)
