use Rattle.std.proofs.Common.{◌∙◌}
use Rattle.regex_hir.proofs.MeaningLemmas.{meaning-Alternation}
use Rattle.std.proofs.lemmas.Result.{IfOk-weaker}
use Rattle.pf_pcre.proofs.RunLemmas.{empty_passes_all, passes_all}
use Rattle.pf_pcre.proofs.run.sieve_of.Goals as goal

pub returns-in-Ok : goal.returns-in-Ok
returns-in-Ok c = passes_all c.in_ok-trees.trees.items c.args.rules.now _ (c.in-Ok.ensures ∙ meaning-Alternation c.in_ok-trees.trees) c.in_ok-trees.ensures

pub returns-in-Err : goal.returns-in-Err
returns-in-Err c = IfOk-weaker c.open_sieve.result _ _ (λ sieve is. empty_passes_all c.args.rules.now _ is) c.open_sieve.ensures
