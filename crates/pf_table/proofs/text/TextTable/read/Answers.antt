use Rattle.pf_table.proofs.CountLaws.{read_counts}
use Rattle.pf_table.proofs.text.TextTable.read.Goals as goal

pub returns-clause-counts : goal.returns-clause-counts
returns-clause-counts c = read_counts c.args.file.now c.args.folded c.args.repeats c.args.text.now _ c.read_text.ensures
