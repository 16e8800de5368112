use Rattle.std.proofs.Common.{◌≡◌, ◌++◌, List, drop, map}
use Rattle.pf_pcre.specs.Clauses.Steps.{results_behind}
use Rattle.pf_pcre.specs.declared.entry.Entry.{Entry}
use Rattle.pf_pcre.specs.declared.entry.Entry.TheVariants.{Rule}
use Rattle.pf_pcre.proofs.parts.add_results.Given as goal

abbrev pub invariant-loop-rule : goal.invariant-loop-rule
invariant-loop-rule l = (rest : List Entry)
    → results_behind l.initial.values (map Rule l.rules ++ rest) ≡ results_behind l.values (map Rule (drop l.rule-index l.rules) ++ rest)
