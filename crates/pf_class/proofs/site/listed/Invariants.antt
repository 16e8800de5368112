use Rattle.std.proofs.Common.{◌≡◌, take}
use Rattle.std.specs.List.{filter_map}
use Rattle.pf_cidr.specs.Addresses.{address_of}
use Rattle.pf_class.proofs.site.listed.Given as goal

abbrev pub invariant-loop-word : goal.invariant-loop-word
invariant-loop-word l = l.list ≡ filter_map address_of (take l.word-index l.words)
