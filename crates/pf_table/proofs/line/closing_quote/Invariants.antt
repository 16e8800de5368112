use Rattle.std.proofs.Common.{◌≡◌, ◌+◌, drop, false}
use Rattle.std.specs.Option.{option_map}
use Rattle.pf_table.specs.Line as spec
use Rattle.pf_table.proofs.line.closing_quote.Given as goal

abbrev pub invariant-loop-i : goal.invariant-loop-i
invariant-loop-i l = spec.closing_quote false l.text ≡ option_map (λ n. l.i + n) (spec.closing_quote l.taken (drop l.i l.text))
