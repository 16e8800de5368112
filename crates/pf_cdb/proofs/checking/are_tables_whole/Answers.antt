use Rattle.std.proofs.Common.{arith}
use Rattle.pf_cdb.proofs.DamageLaws.{is_whole}
use Rattle.pf_cdb.proofs.checking.are_tables_whole.Goals as goal

pub returns : goal.returns
returns c = λ _. is_whole c.args.file.now c.requires (λ table low. c.loop-table.invariant table (omega arith))
