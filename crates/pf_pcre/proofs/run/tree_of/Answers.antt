use Rattle.regex_hir.proofs.MeaningLemmas.{meaning-Empty}
use Rattle.std.proofs.lemmas.Result.{IfOk-weaker}
use Rattle.pf_pcre.proofs.RunLemmas.{empty_passes_rule, passes_rule}
use Rattle.pf_pcre.proofs.run.tree_of.Goals as goal

pub returns-then-rule : goal.returns-then-rule
returns-then-rule c = empty_passes_rule _ c.args.rule.now meaning-Empty

pub returns-else-rule : goal.returns-else-rule
returns-else-rule c = IfOk-weaker c.tree.result _ _ (λ tree passes. passes_rule _ c.args.rule.now c.if-rule.false passes) c.tree.ensures
