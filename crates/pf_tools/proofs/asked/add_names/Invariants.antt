use Rattle.std.proofs.Common.{◌≡◌, map, take}
use Rattle.std.specs.List.{fold}
use Rattle.pf_tools.specs.Clauses.Ordering.{with_name}
use Rattle.pf_tools.proofs.asked.add_names.Given as goal

abbrev pub invariant-loop-setting : goal.invariant-loop-setting
invariant-loop-setting l = l.names ≡ fold with_name l.initial.names (map (λ setting. setting.name) (take l.setting-index l.settings))
