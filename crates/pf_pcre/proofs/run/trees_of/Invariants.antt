use Rattle.std.proofs.Common.{take}
use Rattle.pf_pcre.specs.Clauses.Runs.{TreesPass}
use Rattle.pf_pcre.proofs.run.trees_of.Given as goal

abbrev pub invariant-loop-rule : goal.invariant-loop-rule
invariant-loop-rule l = TreesPass l.trees.items (take l.rule-index l.rules)
