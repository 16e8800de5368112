use Rattle.std.proofs.Common.{ℕ, List, take}
use Rattle.pf_expand.specs.Clauses.Meanings.{AreNames}
use Rattle.pf_base.specs.Meanings.{Source}
use Rattle.pf_params.specs.Sources.{source_of}
use Rattle.pf_params.proofs.table.set_names.Given as goal

abbrev pub invariant-loop-setting : goal.invariant-loop-setting
invariant-loop-setting l = (default_values : List ℕ → Source) → AreNames l.initial.names default_values → AreNames l.names (source_of default_values (take l.setting-index l.settings))
