use Rattle.std.proofs.Common.{Some, None, ap, ◌∙◌, sym}
use Rattle.pf_cdb.specs.Held.{held}
use Rattle.pf_cdb.proofs.ListLaws.{held_says}
use Rattle.pf_cdb.proofs.listing.is_held.Goals as goal

pub returns-in-Some : goal.returns-in-Some
returns-in-Some c =
    sym (held_says c.args.file.now c.args.at (Some c.in-Some.place)
    (ap (held c.args.file.now) (sym c.key_at.ensures) ∙ sym c.find_record.ensures ∙ c.in-Some.is))

pub returns-in-None : goal.returns-in-None
returns-in-None c =
    sym (held_says c.args.file.now c.args.at None
    (ap (held c.args.file.now) (sym c.key_at.ensures) ∙ sym c.find_record.ensures ∙ c.in-None.is))
