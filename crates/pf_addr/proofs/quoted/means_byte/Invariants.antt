use Rattle.std.proofs.Common.{◌≡◌, drop, false}
use Rattle.std.specs.Prelude.{◌==◌}
use Rattle.std.specs.List.{list_any}
use Rattle.pf_addr.specs.Clauses.Quoted.{unquoted}
use Rattle.pf_addr.proofs.quoted.means_byte.Given as goal

abbrev pub invariant-loop-b : goal.invariant-loop-b
invariant-loop-b l = list_any (λ b. b == l.byte) (unquoted false l.content) ≡ list_any (λ b. b == l.byte) (unquoted l.taken (drop l.b-index l.content))
