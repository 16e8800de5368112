use Rattle.std.proofs.Common.{◌≡◌, drop, map}
use Rattle.pf_words.specs.Commands.{app_in, with_options}
use Rattle.pf_words.proofs.command.with_options.Given as goal

abbrev pub invariant-loop-letter : goal.invariant-loop-letter
invariant-loop-letter l = with_options (app_in l.longer) (map (λ option. (option.0, option.1.now)) (drop l.letter-index l.options))
    ≡ with_options (app_in l.fn.command) (map (λ option. (option.0, option.1.now)) l.options)
