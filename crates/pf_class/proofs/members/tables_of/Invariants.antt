use Rattle.std.proofs.Common.{◌≡◌, take}
use Rattle.std.specs.List.{flat_map}
use Rattle.pf_class.specs.Members.{table_of}
use Rattle.pf_class.proofs.members.tables_of.Given as goal

abbrev pub invariant-loop-item : goal.invariant-loop-item
invariant-loop-item l = l.tables ≡ flat_map (λ item. table_of item.pattern) (take l.item-index l.items)
