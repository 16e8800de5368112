use Rattle.std.proofs.Common.{◌≡◌, ◌++◌, drop}
use Rattle.std.specs.Option.{option_map}
use Rattle.pf_words.specs.Assignments.{all_of, assignment_of_word}
use Rattle.pf_words.proofs.assignments.all_settings.Given as goal

abbrev pub invariant-loop-word : goal.invariant-loop-word
invariant-loop-word l =
    all_of assignment_of_word l.words ≡ option_map (λ others. l.settings ++ others) (all_of assignment_of_word (drop l.word-index l.words))
