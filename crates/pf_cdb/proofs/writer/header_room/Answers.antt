use Rattle.std.proofs.Common.{◌≡◌, replicate, ap, ◌∙◌, arith}
use Rattle.pf_cdb.proofs.writer.header_room.Goals as goal

pub returns : goal.returns
returns c = let all : c.loop.counter ≡ 2048 = omega arith in c.loop.invariant ∙ ap (λ n. replicate n 0) all
