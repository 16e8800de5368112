use Rattle.std.proofs.Common.{arith}
use Rattle.pf_class.proofs.ListLaws.{says_word}
use Rattle.pf_class.specs.Items.{domain_item}
use Rattle.pf_class.proofs.items.domain_items.Goals as goal

pub loop-word-preserved : goal.loop-word-preserved
loop-word-preserved c =
    says_word (domain_item c.args.specs.now.texts) c.args.words.now c.loop-word.word-index _ (omega arith) c.word-item.is c.loop-word.invariant
    (rw c.as_slice.ensures at c.in_ok-push_domain.ensures)
