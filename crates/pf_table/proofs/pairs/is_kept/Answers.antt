use Rattle.std.proofs.Common.{sym, ◌∙◌}
use Rattle.pf_table.proofs.LineLemmas.{small_stays}
use Rattle.pf_table.proofs.pairs.is_kept.Goals as goal

pub returns-then-folds : goal.returns-then-folds
returns-then-folds c = λ small. rw c.if-folds.true (small_stays c.args.key.now (sym c.is_small.ensures ∙ small))
