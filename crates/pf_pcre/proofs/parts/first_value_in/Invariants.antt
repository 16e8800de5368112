use Rattle.std.proofs.Common.{◌≡◌, ◌≤◌, drop, vec_len}
use Rattle.pf_pcre.specs.Clauses.Steps.{all_said}
use Rattle.pf_pcre.specs.Tables.{first_value}
use Rattle.pf_pcre.proofs.FindLaws.{walk}
use Rattle.pf_pcre.proofs.parts.first_value_in.Given as goal

abbrev pub invariant-loop-place : goal.invariant-loop-place
invariant-loop-place l = record {
  few : l.skipped ≤ l.place;
  long : vec_len l.items ≡ vec_len l.fn.items;
  same : l.items.items ≡ l.fn.items.items;
  led : first_value (all_said l.fn.items.items) l.text ≡ walk l.text l.skipped (all_said (drop l.place l.fn.items.items));
}
