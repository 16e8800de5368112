use Rattle.std.proofs.Common.{sym}
use Rattle.pf_cdb.proofs.DamageLaws.{is_sound, records_lie, slots_lie}
use Rattle.pf_cdb.proofs.checking.first_of_slots.Goals as goal

pub first_in_slots-requires-2-clause-readable : goal.first_in_slots-requires-2-clause-readable
first_in_slots-requires-2-clause-readable c = slots_lie c.args.file.now (sym c.in_default.ensures)

pub first_in_slots-requires-3-clause-readable : goal.first_in_slots-requires-3-clause-readable
first_in_slots-requires-3-clause-readable c =
    (slots_lie c.args.file.now (sym c.in_default.ensures), records_lie c.args.file.now (sym c.in_default-first_in_slots.ensures))

pub returns-clause-sound : goal.returns-clause-sound
returns-clause-sound c =
    is_sound c.args.file.now c.requires (sym c.in_default.ensures) (sym c.in_default-first_in_slots.ensures) (sym c.in_default-first_in_slots-2.ensures)
