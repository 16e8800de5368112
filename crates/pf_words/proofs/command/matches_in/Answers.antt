use Rattle.pf_words.proofs.FoundLemmas.{rows_refused, rows_taken}
use Rattle.pf_words.proofs.command.matches_in.Goals as goal

pub returns-in-Ok : goal.returns-in-Ok
returns-in-Ok c = rows_taken _ _ c.in-Ok.matches c.requires c.in-Ok.ensures.kinds c.in-Ok.ensures.matches

pub returns : goal.returns
returns c = rows_refused _ _ c.in-Err.error c.kind.result c.requires c.kind.ensures c.in_default.not-OutOfMemory c.in-Err.ensures.kinds
