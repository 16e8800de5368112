use Rattle.std.proofs.Common.{◌≡◌, ◌++◌, drop, false}
use Rattle.pf_addr.specs.Clauses.Quoted as quoted
use Rattle.pf_addr.proofs.quoted.unquoted.Given as goal

abbrev pub invariant-loop-b : goal.invariant-loop-b
invariant-loop-b l = quoted.unquoted false l.content ≡ l.bytes ++ quoted.unquoted l.taken (drop l.b-index l.content)
