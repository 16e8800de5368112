use Rattle.std.proofs.Common.{arith}
use Rattle.pf_pcre.proofs.RunLemmas.{all_seen, more_at}
use Rattle.pf_pcre.proofs.run.trees_of.Goals as goal

pub loop-rule-preserved : goal.loop-rule-preserved
loop-rule-preserved c =
    more_at c.loop-rule.trees.items c.add_tree.new.trees.items c.args.rules.now c.loop-rule.rule-index c.in_ok-tree.tree c.rule-item.result
    (omega arith) c.rule-item.is c.in_ok-add_tree.ensures c.loop-rule.invariant c.in_ok-tree.ensures

pub returns : goal.returns
returns c = all_seen c.loop-rule.trees.items c.args.rules.now c.loop-rule.rule-index (omega arith) c.loop-rule.invariant
