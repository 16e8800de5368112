use Rattle.std.proofs.Common.{◌∙◌, sym}
use Rattle.pf_addr.proofs.PrintedLemmas.{as_it_is}
use Rattle.pf_addr.proofs.printing.add_content.Goals as goal

pub returns-then-not-has_pairs : goal.returns-then-not-has_pairs
returns-then-not-has_pairs c = rw (as_it_is _ (sym c.has_pairs.ensures ∙ c.if-not-has_pairs.true)) c.add_printed.ensures.ok
