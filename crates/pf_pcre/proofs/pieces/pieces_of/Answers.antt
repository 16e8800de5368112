use Rattle.std.proofs.Common.{arith}
use Rattle.pf_pcre.proofs.PieceLaws.{at_first, piece_more}
use Rattle.pf_pcre.proofs.pieces.pieces_of.Goals as goal

pub loop-place-init : goal.loop-place-init
loop-place-init c = at_first c.args.groups c.args.text.now _ c.new-pieces.ensures

pub loop-place-preserved : goal.loop-place-preserved
loop-place-preserved c =
    rw c.in_ok-push.ensures.ok
    (piece_more c.args.groups c.loop-place._place c.args.text.now c.loop-place.rest.now c.loop-place.pieces (c.in-Some.piece, c.in-Some.behind.now)
    (omega arith) c.in-Some.ensures c.loop-place.invariant)
