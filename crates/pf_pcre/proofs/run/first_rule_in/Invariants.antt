use Rattle.std.proofs.Common.{◌≡◌, drop, vec_len}
use Rattle.pf_pcre.specs.Clauses.Runs.{first_rule}
use Rattle.pf_pcre.proofs.run.first_rule_in.Given as goal

abbrev pub invariant-loop-place : goal.invariant-loop-place
invariant-loop-place l = record {
  long : vec_len l.rules ≡ vec_len l.fn.rules;
  same : l.rules.items ≡ l.fn.rules.items;
  led : first_rule l.text l.fn.rules.items ≡ first_rule l.text (drop l.place l.fn.rules.items);
}
