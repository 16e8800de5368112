use Rattle.std.proofs.Common.{◌≡◌, ◌-◌, length}
use Rattle.pf_pcre.specs.Pieces.{pieces_of, pieces_within}
use Rattle.pf_pcre.proofs.PieceLaws.{before}
use Rattle.pf_pcre.proofs.pieces.pieces_of.Given as goal

abbrev pub invariant-loop-place : goal.invariant-loop-place
invariant-loop-place l = pieces_of l.groups l.text ≡ before l.pieces (pieces_within l.groups (length l.text - l._place) l.rest)
