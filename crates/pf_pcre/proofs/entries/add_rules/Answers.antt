use Rattle.pf_pcre.proofs.entries.add_rules.Goals as goal

pub new-requires : goal.new-requires
new-requires c = rw c.as_slice.ensures.value at c.in_ok-sieve.ensures
