use Rattle.std.proofs.Common.{take, arith}
use Rattle.pf_params.proofs.TableLaws.{set_more, take_more}
use Rattle.pf_params.specs.Sources.{source_of}
use Rattle.pf_params.proofs.table.set_names.Goals as goal

pub loop-setting-preserved : goal.loop-setting-preserved
loop-setting-preserved c = λ default_values are.
    let before = take c.loop-setting.setting-index c.args.settings.now in
    let set = rw (c.as_slice.ensures, c.as_slice-in-loop-setting.ensures) at c.in_ok-set.ensures.ok in
    set_more c.set.new.self default_values before _ c.setting-item.result (set (source_of default_values before) (c.loop-setting.invariant default_values are))
    (take_more c.args.settings.now c.loop-setting.setting-index c.setting-item.result (omega arith) c.setting-item.is)
