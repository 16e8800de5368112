use Rattle.std.proofs.Common.{◌≡◌, drop}
use Rattle.pf_listfile.specs.Clauses.Adding.{behind}
use Rattle.pf_listfile.specs.ListFile.{items_in}
use Rattle.pf_listfile.proofs.reading.add_words.Given as goal

abbrev pub invariant-loop-word : goal.invariant-loop-word
invariant-loop-word l = behind l.items (items_in (drop l.word-index l.words)) ≡ behind l.initial.items (items_in l.words)
