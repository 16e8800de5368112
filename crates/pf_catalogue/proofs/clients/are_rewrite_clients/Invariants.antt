use Rattle.std.proofs.Common.{◌≡◌, false, drop}
use Rattle.pf_catalogue.specs.Clients as spec
use Rattle.pf_catalogue.proofs.clients.are_rewrite_clients.Given as goal

abbrev pub invariant-loop-item : goal.invariant-loop-item
invariant-loop-item l = spec.are_rewrite_clients l.wanted (drop l.item-index l.items) ≡ spec.are_rewrite_clients false l.items
