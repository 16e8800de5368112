use Rattle.std.proofs.Common.{length}
use Rattle.pf_smtp.specs.Clauses.Gathering.{ComesDownTo}
use Rattle.pf_smtp.proofs.progress.Progress.take_piece.Given as goal

abbrev pub invariant-lines : goal.invariant-lines
invariant-lines l = ComesDownTo l.initial.texts l.texts l.initial.self l.self l.piece l.left

abbrev pub decreases-lines : goal.decreases-lines
decreases-lines l = length l.left
