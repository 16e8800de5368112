use Rattle.std.proofs.Common.{◌≡◌, not, ap, ◌∙◌, sym, arith}
use Rattle.std.proofs.lemmas.Bool.{eq-eqb}
use Rattle.pf_cdb.specs.Layout.{slot_of}
use Rattle.pf_cdb.proofs.ListLaws.{not_held}
use Rattle.pf_cdb.proofs.listing.names_held.Goals as goal

pub returns-else-at-ne0 : goal.returns-else-at-ne0
returns-else-at-ne0 c =
    let zero : c.slot_at-at.result.at ≡ 0 = omega arith in
    let place : (slot_of c.args.file.now c.args.table c.args.i).at ≡ c.slot_at-at.result.at = ap (λ slot. slot.at) (sym c.slot_at-at.ensures) in
    ap not (eq-eqb c.slot_at-at.result.at 0 zero)
    ∙ sym (not_held c.args.file.now (slot_of c.args.file.now c.args.table c.args.i).at c.requires.sound (omega arith))
