use Rattle.std.proofs.Common.{◌≡◌, ◌+◌, drop, false}
use Rattle.std.specs.Option.{option_map}
use Rattle.pf_pcre.specs.Shape as spec
use Rattle.pf_pcre.proofs.shape.closing.Given as goal

abbrev pub invariant-loop-i : goal.invariant-loop-i
invariant-loop-i l = spec.closing l.delimiter false l.text ≡ option_map (λ n. l.i + n) (spec.closing l.delimiter l.taken (drop l.i l.text))
