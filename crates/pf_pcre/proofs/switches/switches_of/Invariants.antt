use Rattle.std.proofs.Common.{◌≡◌, drop}
use Rattle.pf_pcre.specs.Switches.{switches_of, with_flags}
use Rattle.pf_pcre.proofs.switches.switches_of.Given as goal

abbrev pub invariant-loop-flag : goal.invariant-loop-flag
invariant-loop-flag l = switches_of l.flags ≡ with_flags l.switches (drop l.flag-index l.flags)
