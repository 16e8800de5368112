use Rattle.std.proofs.Common.{◌≡◌, ◌+◌, ◌≤◌, take}
use Rattle.std.specs.List.{sum_by}
use Rattle.pf_cdb.proofs.SizeLaws.{entry_size}
use Rattle.pf_cdb.proofs.sizing.size_of.Given as goal

abbrev pub invariant-loop-pair : goal.invariant-loop-pair
invariant-loop-pair l = record {
  at_is : l.size ≡ 2048 + sum_by entry_size (take l.pair-index l.entries);
  low : l.size ≤ 67108864;
}
