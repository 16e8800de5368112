use Rattle.std.proofs.Common.{◌≡◌, ◌++◌, drop, false}
use Rattle.pf_table.specs.Line as spec
use Rattle.pf_table.proofs.line.add_unquoted.Given as goal

abbrev pub invariant-loop-b : goal.invariant-loop-b
invariant-loop-b l = l.initial.key.items ++ spec.unquoted false l.content ≡ l.key.items ++ spec.unquoted l.taken (drop l.b-index l.content)
