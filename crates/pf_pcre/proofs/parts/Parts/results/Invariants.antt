use Rattle.std.proofs.Common.{◌≡◌, drop}
use Rattle.pf_pcre.specs.Clauses.Steps.{all_said, results_behind}
use Rattle.pf_pcre.specs.Tables.{results_of}
use Rattle.pf_pcre.proofs.parts.Parts.results.Given as goal

abbrev pub invariant-loop-part : goal.invariant-loop-part
invariant-loop-part l = results_of l.self ≡ results_behind l.values (all_said (drop l.part-index l.part-items))
