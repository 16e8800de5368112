use Rattle.std.proofs.Common.{◌∙◌, sym}
use Rattle.pf_addr.proofs.QuotedLemmas.{stays}
use Rattle.pf_addr.proofs.quoted.unquoted.Goals as goal

pub returns-then-not-has_backslash : goal.returns-then-not-has_backslash
returns-then-not-has_backslash c = rw (stays _ (sym c.has_backslash.ensures ∙ c.if-not-has_backslash.true)) c.from_slice.ensures
