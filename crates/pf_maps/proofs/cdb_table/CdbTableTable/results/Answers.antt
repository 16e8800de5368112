use Rattle.pf_maps.proofs.CdbLaws.{cdb_has_all}
use Rattle.pf_maps.proofs.cdb_table.CdbTableTable.results.Goals as goal

pub returns-clause-all : goal.returns-clause-all
returns-clause-all c = cdb_has_all c.args.self.now

pub returns-in_err-values-clause-all : goal.returns-in_err-values-clause-all
returns-in_err-values-clause-all c = cdb_has_all c.args.self.now
