use Rattle.pf_pcre.proofs.entries.Entries.push_rule.Goals as goal

pub invariant_of-rule-clause-implements : goal.invariant_of-rule-clause-implements
invariant_of-rule-clause-implements c = c.drop.inside.finder.program.implements
