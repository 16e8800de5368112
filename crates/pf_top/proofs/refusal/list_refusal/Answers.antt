use Rattle.pf_top.proofs.refusal.list_refusal.Goals as goal

pub returns : goal.returns
returns c = rw (c.as_slice.ensures, c.in_ok-items.ensures) at c.relay_refusal.ensures
