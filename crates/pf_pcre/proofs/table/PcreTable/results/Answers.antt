use Rattle.pf_pcre.proofs.ResultLaws.{has_all}
use Rattle.pf_pcre.proofs.table.PcreTable.results.Goals as goal

pub returns-clause-all : goal.returns-clause-all
returns-clause-all c = has_all c.args.self.now
