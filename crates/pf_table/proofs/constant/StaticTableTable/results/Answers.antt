use Rattle.pf_table.proofs.ResultLaws.{static_has_all}
use Rattle.pf_table.proofs.constant.StaticTableTable.results.Goals as goal

pub returns-clause-all : goal.returns-clause-all
returns-clause-all c = static_has_all c.args.self.now
