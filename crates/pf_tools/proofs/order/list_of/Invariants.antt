use Rattle.std.proofs.Common.{◌≡◌, map, take}
use Rattle.pf_tools.proofs.order.list_of.Given as goal

abbrev pub invariant-loop-name : goal.invariant-loop-name
invariant-loop-name l = l.list ≡ map (λ name. name.items) (take l.name-index l.names)
