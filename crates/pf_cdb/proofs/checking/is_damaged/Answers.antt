use Rattle.std.proofs.Common.{◌∙◌, sym, arith}
use Rattle.pf_cdb.proofs.DamageLaws.{record_lies, slot_lies}
use Rattle.pf_cdb.proofs.checking.is_damaged.Goals as goal

pub is_record_out-requires : goal.is_record_out-requires
is_record_out-requires c = λ used. (slot_lies c.args.file.now c.args.slot (sym c.is_slot_out.ensures ∙ c.if-is_slot_out.false) used).1

pub is_hash_wrong-requires : goal.is_hash_wrong-requires
is_hash_wrong-requires c = λ used.
    let lies = record_lies c.args.file.now c.args.slot (sym c.is_record_out.ensures ∙ c.if-is_record_out.false) used in omega (arith, lies)
