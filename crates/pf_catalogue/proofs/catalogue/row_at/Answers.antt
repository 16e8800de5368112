use Rattle.std.proofs.Common.{arith}
use Rattle.pf_catalogue.proofs.TableLaws.{row_there}
use Rattle.pf_catalogue.proofs.catalogue.row_at.Goals as goal

pub returns : goal.returns
returns c = row_there c.rows.result.now c.args.place _ c.rows.ensures.rows (omega arith)
