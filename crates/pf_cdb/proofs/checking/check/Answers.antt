use Rattle.std.proofs.Common.{sym, arith}
use Rattle.pf_cdb.proofs.DamageLaws.{none_from_sound, tables_lie}
use Rattle.pf_cdb.proofs.checking.check.Goals as goal

pub are_tables_whole-requires : goal.are_tables_whole-requires
are_tables_whole-requires c = record { header = omega arith; tables = tables_lie c.args.file.now (sym c.in_default.ensures) }

pub first_of_slots-requires : goal.first_of_slots-requires
first_of_slots-requires c = record { header = omega arith; tables = tables_lie c.args.file.now (sym c.in_default.ensures) }

pub returns-then-are_tables_whole-clause-damage : goal.returns-then-are_tables_whole-clause-damage
returns-then-are_tables_whole-clause-damage c = sym (none_from_sound c.args.file.now (c.are_tables_whole.ensures c.if-are_tables_whole.true))
