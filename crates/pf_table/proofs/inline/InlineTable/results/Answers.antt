use Rattle.pf_table.proofs.ResultLaws.{keyed_has_all}
use Rattle.pf_table.proofs.inline.InlineTable.results.Goals as goal

pub returns-in_err-values-clause-all : goal.returns-in_err-values-clause-all
returns-in_err-values-clause-all c = keyed_has_all c.args.self.now

pub returns-clause-all : goal.returns-clause-all
returns-clause-all c = keyed_has_all c.args.self.now
