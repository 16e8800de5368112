use Rattle.std.proofs.Common.{set, ap, ◌∙◌, arith}
use Rattle.std.specs.Char.{to_ascii_lowercase}
use Rattle.pf_table.proofs.LineLemmas.{small_more}
use Rattle.pf_table.proofs.line.make_small.Goals as goal

pub loop-i-preserved : goal.loop-i-preserved
loop-i-preserved c =
    ap (set c.loop-i.text c.loop-i.i) c.to_ascii_lowercase.ensures.value
    ∙ small_more to_ascii_lowercase c.args.text.now c.loop-i.text c.loop-i.i (omega arith) c.loop-i.invariant
