use Rattle.std.proofs.Common.{sym, ◌∙◌}
use Rattle.pf_class.proofs.ListLaws.{says_empty}
use Rattle.pf_class.proofs.gathering.push_names.Goals as goal

pub returns-then-is_empty : goal.returns-then-is_empty
returns-then-is_empty c = says_empty _ _ _ (sym c.is_empty.ensures ∙ c.if-is_empty.true)
