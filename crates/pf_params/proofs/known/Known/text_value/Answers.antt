use Rattle.pf_params.specs.Settled.{settled_source}
use Rattle.pf_params.proofs.known.Known.text_value.Goals as goal

pub returns : goal.returns
returns c = rw (← c.self.view_is) (c.text.ensures (settled_source c.self.inside.main) c.self.invariant)
