use Rattle.std.proofs.Common.{◌≡◌, take}
use Rattle.pf_class.proofs.site.list_of.Given as goal

abbrev pub invariant-loop-address : goal.invariant-loop-address
invariant-loop-address l = l.list ≡ take l.address-index l.addresses
