use Rattle.std.proofs.Common.{Some, sym}
use Rattle.pf_expand.proofs.RoundLaws.{next_meaning, not_set_value}
use Rattle.pf_expand.proofs.rounds.next_size.Goals as goal

pub returns-in-None : goal.returns-in-None
returns-in-None c = not_set_value c.args.names.now c.args.sizes.now.levels c.args.name.now (sym (rw c.in-None.is at c.get.ensures))

pub returns-in-Some : goal.returns-in-Some
returns-in-Some c =
    rw (next_meaning c.args.names.now c.args.sizes.now.levels c.args.name.now (Some c.in-Some.meaning.now) (sym (rw c.in-Some.is at c.get.ensures))) c.meaning_size.ensures
