use Rattle.pf_params.specs.Settled.{settled_source}
use Rattle.pf_params.proofs.known.Known.meaning_value.Goals as goal

pub returns : goal.returns
returns c = rw (← c.self.view_is) (c.meaning.ensures (settled_source c.self.inside.main) c.self.invariant)
