use Rattle.std.proofs.Common.{◌≡◌, length}
use Rattle.pf_tools.specs.Clauses.Keys.{ComesDownTo}
use Rattle.pf_tools.specs.Clauses.Opened.{meant}
use Rattle.pf_tools.proofs.map.keys.Progress.take_piece.Given as goal

abbrev pub invariant-lines : goal.invariant-lines
invariant-lines l = record {
  down : ComesDownTo (meant l.initial.tables) l.initial.text l.text l.initial.self l.self l.piece l.left;
  same : meant l.tables ≡ meant l.initial.tables;
}

abbrev pub decreases-lines : goal.decreases-lines
decreases-lines l = length l.left
