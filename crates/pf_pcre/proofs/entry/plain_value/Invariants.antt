use Rattle.std.proofs.Common.{◌≡◌, ◌++◌, drop}
use Rattle.pf_pcre.specs.Tables.{plain_value}
use Rattle.pf_pcre.proofs.entry.plain_value.Given as goal

abbrev pub invariant-loop-piece : goal.invariant-loop-piece
invariant-loop-piece l = plain_value l.pieces ≡ l.value ++ plain_value (drop l.piece-index l.pieces)
