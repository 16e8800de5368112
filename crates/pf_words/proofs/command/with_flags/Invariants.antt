use Rattle.std.proofs.Common.{◌≡◌, drop, map}
use Rattle.pf_words.specs.Commands.{app_in, with_flags}
use Rattle.pf_words.proofs.command.with_flags.Given as goal

abbrev pub invariant-loop-letter : goal.invariant-loop-letter
invariant-loop-letter l = with_flags (app_in l.longer) (map (λ flag. (flag.0, flag.1.now)) (drop l.letter-index l.flags))
    ≡ with_flags (app_in l.fn.command) (map (λ flag. (flag.0, flag.1.now)) l.flags)
