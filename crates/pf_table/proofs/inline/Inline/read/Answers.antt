use Rattle.pf_table.proofs.CountLaws.{table_counts}
use Rattle.pf_table.proofs.inline.Inline.read.Goals as goal

pub returns-clause-counts : goal.returns-clause-counts
returns-clause-counts c = table_counts c.args.file.now c.args.line c.args.folded c.args.text.now _ c.table_of.ensures
