use Rattle.std.proofs.Common.{◌≡◌, drop, false}
use Rattle.std.specs.List.{list_all}
use Rattle.pf_addr.specs.Clauses.Quoted.{unquoted}
use Rattle.pf_addr.specs.Printed.{is_atom_byte}
use Rattle.pf_addr.proofs.printing.means_atoms.Given as goal

abbrev pub invariant-loop-b : goal.invariant-loop-b
invariant-loop-b l = list_all is_atom_byte (unquoted false l.content) ≡ list_all is_atom_byte (unquoted l.taken (drop l.b-index l.content))
