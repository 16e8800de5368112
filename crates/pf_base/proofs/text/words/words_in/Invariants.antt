use Rattle.std.proofs.Common.{◌≡◌, ◌++◌, length}
use Rattle.pf_base.specs.Text.Words as spec
use Rattle.pf_base.proofs.text.words.words_in.Given as goal

abbrev pub invariant-words : goal.invariant-words
invariant-words l = spec.words_in l.value ≡ l.words ++ spec.words_in l.left

abbrev pub decreases-words : goal.decreases-words
decreases-words l = length l.left
