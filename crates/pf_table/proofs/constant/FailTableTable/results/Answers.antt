use Rattle.pf_table.proofs.ResultLaws.{fail_has_all}
use Rattle.pf_table.proofs.constant.FailTableTable.results.Goals as goal

pub returns-clause-all : goal.returns-clause-all
returns-clause-all c = fail_has_all
