use Rattle.std.proofs.Common.{arith}
use Rattle.pf_class.proofs.ListLaws.{items_word}
use Rattle.pf_class.specs.Items.{network_item}
use Rattle.pf_class.proofs.items.network_items.Goals as goal

pub loop-word-preserved : goal.loop-word-preserved
loop-word-preserved c =
    items_word (network_item c.args.specs.now.texts) c.args.words.now c.loop-word.word-index _ (omega arith) c.word-item.is c.loop-word.invariant
    (rw (c.item_by-item.ensures, c.network_pattern.ensures, c.as_slice.ensures, c.as_slice-in-loop-word.ensures) at c.in_ok-push_some.ensures)
