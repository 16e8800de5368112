use Rattle.std.proofs.Common.{◌≡◌, ◌++◌, drop}
use Rattle.std.specs.Option.{option_map}
use Rattle.pf_top.specs.Values.{network_of}
use Rattle.pf_words.specs.Assignments.{all_of}
use Rattle.pf_top.proofs.values.all_nets.Given as goal

abbrev pub invariant-loop-item : goal.invariant-loop-item
invariant-loop-item l = all_of network_of l.items ≡ option_map (λ others. l.nets ++ others) (all_of network_of (drop l.item-index l.items))
