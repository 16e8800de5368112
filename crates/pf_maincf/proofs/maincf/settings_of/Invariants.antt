use Rattle.std.proofs.Common.{◌≡◌, ◌++◌, Ok, drop}
use Rattle.pf_base.specs.Results.{◌>>=◌}
use Rattle.pf_maincf.specs.Settings.{settings_of}
use Rattle.pf_maincf.proofs.maincf.settings_of.Given as goal

abbrev pub invariant-loop-logical : goal.invariant-loop-logical
invariant-loop-logical l =
    settings_of l.file l.lines ≡ (settings_of l.file (drop l.logical-index l.lines) >>= (λ behind. Ok (l.settings ++ behind)))
