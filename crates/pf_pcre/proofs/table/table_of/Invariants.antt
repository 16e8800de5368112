use Rattle.std.proofs.Common.{◌≡◌}
use Rattle.pf_pcre.proofs.TakingLaws.{Led}
use Rattle.pf_pcre.proofs.table.table_of.Given as goal

abbrev pub invariant-loop-logical : goal.invariant-loop-logical
invariant-loop-logical l = record {
  led : Led l.lines l.logical-index l.reading;
  same : l.patterns ≡ l.initial.patterns;
}
