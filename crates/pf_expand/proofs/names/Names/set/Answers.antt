use Rattle.std.proofs.lemmas.Result.{on_ok_weaker}
use Rattle.pf_base.specs.Clauses.Meant.{meant}
use Rattle.pf_expand.proofs.NameLaws.{name_set}
use Rattle.pf_expand.proofs.names.Names.set.Goals as goal

pub returns-clause-ok : goal.returns-clause-ok
returns-clause-ok c =
    on_ok_weaker c.put.result
    (λ is sources are. name_set c.args.self.now c.put.new.self c.args.name.now (meant c.args.meaning) sources is are)
    (rw (c.in_ok-from_slice.ensures, c.in_ok-kept.ensures) at c.put.ensures.ok)
