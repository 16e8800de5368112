use Rattle.pf_expand.proofs.NameLaws.{none_set}
use Rattle.pf_expand.proofs.names.Names.new.Goals as goal

pub returns : goal.returns
returns c = none_set _ c.new.ensures.empty
