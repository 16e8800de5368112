use Rattle.std.proofs.Common.{◌≡◌, take}
use Rattle.pf_class.specs.Items.{network_items}
use Rattle.pf_class.proofs.items.network_items.Given as goal

abbrev pub invariant-loop-word : goal.invariant-loop-word
invariant-loop-word l = l.items ≡ network_items l.specs.texts (take l.word-index l.words)
