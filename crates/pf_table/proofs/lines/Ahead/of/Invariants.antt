use Rattle.std.proofs.Common.{◌≡◌, ◌+◌, ◌^◌, ◌≤◌, length}
use Rattle.pf_base.specs.Text.Lines.{parts}
use Rattle.pf_base.specs.Text.Logical.{grouped, numbered}
use Rattle.pf_table.proofs.lines.Ahead.of.Given as goal

abbrev pub invariant-lines : goal.invariant-lines
invariant-lines l = record {
  same : grouped (numbered l.first (parts l.text)) ≡ grouped (numbered l.number (parts l.left));
  within : l.number + length l.left ≤ 2 ^ 63;
}

abbrev pub decreases-lines : goal.decreases-lines
decreases-lines l = length l.left
