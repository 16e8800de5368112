use Rattle.std.proofs.Common.{sym, ap, ◌∙◌, is_some}
use Rattle.pf_table.proofs.IndexLaws.{has_index, push_is}
use Rattle.pf_table.proofs.pairs.Pairs.add.Goals as goal

pub returns-in_ok-push-in-None-clause-added : goal.returns-in_ok-push-in-None-clause-added
returns-in_ok-push-in-None-clause-added c =
    c.in_ok-push-in-None.ensures
    ∙ sym (push_is c.args.repeats c.args.self.now (record { key = c.args.key.now; value = c.args.value.now }) (sym c.index.ensures ∙ c.in-None.is))

pub returns-in_ok-push-in-None-clause-was : goal.returns-in_ok-push-in-None-clause-was
returns-in_ok-push-in-None-clause-was c = sym (has_index c.args.self.now c.args.key.now ∙ ap is_some (sym c.index.ensures ∙ c.in-None.is))

pub returns-in_ok-put-in-Some-clause-was : goal.returns-in_ok-put-in-Some-clause-was
returns-in_ok-put-in-Some-clause-was c = sym (has_index c.args.self.now c.args.key.now ∙ ap is_some (sym c.index.ensures ∙ c.in-Some.is))
