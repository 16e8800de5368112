use Rattle.std.proofs.Common.{◌≡◌, ◌+◌, drop, false}
use Rattle.std.specs.Option.{option_map}
use Rattle.pf_addr.specs.Clauses.Quoted as quoted
use Rattle.pf_addr.proofs.quoted.closing_quote.Given as goal

abbrev pub invariant-loop-i : goal.invariant-loop-i
invariant-loop-i l = quoted.closing_quote false l.text ≡ option_map (λ n. l.i + n) (quoted.closing_quote l.taken (drop l.i l.text))
