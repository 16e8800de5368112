use Rattle.pf_maps.proofs.MeaningLaws.{known_all}
use Rattle.pf_maps.proofs.tables.TablesLookup.results.Goals as goal

pub returns-clause-all : goal.returns-clause-all
returns-clause-all c = known_all c.args.self.now.tables c.args.id.0
