use Rattle.pf_class.proofs.ListLaws.{says_nothing}
use Rattle.std.specs.Prelude.{false}
use Rattle.pf_class.proofs.gathering.Gathered.new.Goals as goal

pub returns : goal.returns
returns c = rw (c.new.ensures, c.new-2.ensures) (says_nothing false)
