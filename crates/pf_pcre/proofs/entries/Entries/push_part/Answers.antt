use Rattle.pf_pcre.proofs.entries.Entries.push_part.Goals as goal

pub invariant_of-part-clause-implements : goal.invariant_of-part-clause-implements
invariant_of-part-clause-implements c = c.drop.inside.sieve.program.implements

pub invariant_of-part-in_err-add_rules-2-clause-implements : goal.invariant_of-part-in_err-add_rules-2-clause-implements
invariant_of-part-in_err-add_rules-2-clause-implements c = c.drop-in_err-add_rules-9.inside.finder.program.implements
