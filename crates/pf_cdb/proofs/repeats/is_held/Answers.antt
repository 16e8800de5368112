use Rattle.std.proofs.Common.{Some, None, ◌∙◌, sym}
use Rattle.pf_cdb.proofs.ListLaws.{held_says}
use Rattle.pf_cdb.proofs.repeats.is_held.Goals as goal

pub returns-in-Some : goal.returns-in-Some
returns-in-Some c = sym (held_says c.args.file.now c.args.own.at (Some c.in-Some.place) (sym c.holder.ensures ∙ c.in-Some.is))

pub returns-in-None : goal.returns-in-None
returns-in-None c = sym (held_says c.args.file.now c.args.own.at None (sym c.holder.ensures ∙ c.in-None.is))
