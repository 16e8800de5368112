use Rattle.pf_smtp.proofs.PieceLemmas.{kept_prefix}
use Rattle.pf_smtp.proofs.progress.LineBuffer.keep.Goals as goal

pub returns : goal.returns
returns c =
    rw (← c.self.view_is) (rw (c.in_ok-extend.ensures.ok, c.min-count.ensures, c.len.ensures) (kept_prefix c.self.inside.bytes c.args.bytes.now c.self.invariant))
