use Rattle.std.proofs.Common.{◌≡◌, ◌++◌, true, length}
use Rattle.pf_table.proofs.AheadLaws.{joined}
use Rattle.pf_table.proofs.lines.join.Given as goal

abbrev pub invariant-loop-more : goal.invariant-loop-more
invariant-loop-more l = record {
  all : l.whole ≡ true → l.text ++ joined l.fn.ahead.leading ≡ l.joined ++ joined l.ahead.leading;
  logical : l.ahead.logical ≡ l.fn.ahead.logical;
}

abbrev pub decreases-loop-more : goal.decreases-loop-more
decreases-loop-more l = length l.ahead.leading
