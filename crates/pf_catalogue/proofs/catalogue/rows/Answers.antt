use Rattle.std.proofs.Common.{refl}
use Rattle.pf_catalogue.specs.Catalogue.{catalogue}
use Rattle.pf_catalogue.proofs.catalogue.rows.Goals as goal

pub returns-clause-rows : goal.returns-clause-rows
unfolding catalogue
returns-clause-rows c = refl
