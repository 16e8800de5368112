use Rattle.std.proofs.Common.{◌≡◌, ◌++◌, drop, false}
use Rattle.std.specs.List.{flat_map}
use Rattle.pf_base.specs.Text.Printing.{printed}
use Rattle.pf_addr.specs.Clauses.Quoted.{unquoted}
use Rattle.pf_addr.specs.Printed.{escaped}
use Rattle.pf_addr.proofs.printing.add_content.Given as goal

abbrev pub invariant-loop-b : goal.invariant-loop-b
invariant-loop-b l = l.initial.text ++ printed (flat_map escaped (unquoted false l.content))
    ≡ l.text ++ printed (flat_map escaped (unquoted l.taken (drop l.b-index l.content)))
