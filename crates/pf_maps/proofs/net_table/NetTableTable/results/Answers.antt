use Rattle.pf_maps.proofs.MeaningLaws.{nets_have_all}
use Rattle.pf_maps.proofs.net_table.NetTableTable.results.Goals as goal

pub returns-clause-all : goal.returns-clause-all
returns-clause-all c = nets_have_all c.args.self.now

pub returns-in_err-values-clause-all : goal.returns-in_err-values-clause-all
returns-in_err-values-clause-all c = nets_have_all c.args.self.now
