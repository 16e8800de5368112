use Rattle.std.proofs.Common.{take}
use Rattle.pf_class.specs.Clauses.Lists.{SaysAs, gathered_items}
use Rattle.pf_class.specs.Items.{domain_items}
use Rattle.pf_class.proofs.items.domain_items.Given as goal

abbrev pub invariant-loop-word : goal.invariant-loop-word
invariant-loop-word l = SaysAs (gathered_items l.gathered) (domain_items l.specs.texts (take l.word-index l.words))
