use Rattle.std.proofs.Common.{◌≤◌, [], drop}
use Rattle.pf_catalogue.specs.Catalogue.{catalogue}
use Rattle.pf_catalogue.specs.declared.count.TheConstants.{PARAMS}
use Rattle.pf_expand.specs.Clauses.Meanings.{AreNames}
use Rattle.pf_base.specs.declared.meaning.Meaning.TheVariants.{Is}
use Rattle.pf_params.specs.Sources.{default_value_among}
use Rattle.pf_params.proofs.table.set_default_values.Given as goal

abbrev pub invariant-loop-left : goal.invariant-loop-left
invariant-loop-left l = (l.left ≤ PARAMS) × (AreNames l.initial.names (λ name. Is []) → AreNames l.names (default_value_among (drop l.left catalogue)))

abbrev pub decreases-loop-left : goal.decreases-loop-left
decreases-loop-left l = l.left
