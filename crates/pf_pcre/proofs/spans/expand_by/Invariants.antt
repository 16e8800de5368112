use Rattle.std.proofs.Common.{◌≡◌, ◌++◌, drop, true}
use Rattle.std.specs.List.{list_all}
use Rattle.pf_pcre.specs.Patterns.{expanded}
use Rattle.pf_pcre.specs.Clauses.Sights.{piece_has_cells, span_by}
use Rattle.pf_pcre.proofs.spans.expand_by.Given as goal

abbrev pub invariant-loop-piece : goal.invariant-loop-piece
invariant-loop-piece l = record {
  have : list_all (piece_has_cells l.cells) (drop l.piece-index l.pieces) ≡ true;
  led : l.initial.value ++ expanded l.text (span_by l.from l.to l.cells) l.pieces
      ≡ l.value ++ expanded l.text (span_by l.from l.to l.cells) (drop l.piece-index l.pieces);
}
