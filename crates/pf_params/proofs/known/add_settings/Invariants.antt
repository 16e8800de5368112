use Rattle.std.proofs.Common.{◌≡◌, ◌++◌, map, take}
use Rattle.pf_params.specs.Settled as spec
use Rattle.pf_params.proofs.known.add_settings.Given as goal

abbrev pub invariant-loop-setting : goal.invariant-loop-setting
invariant-loop-setting l = l.all ≡ l.initial.all ++ map (spec.line_if l.in_file) (take l.setting-index l.settings)
