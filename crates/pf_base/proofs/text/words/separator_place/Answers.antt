use Rattle.std.proofs.Common.{sym, arith}
use Rattle.pf_base.proofs.WordLemmas.{parted_whole}
use Rattle.pf_base.proofs.text.words.separator_place.Goals as goal

pub loop-i-init : goal.loop-i-init
loop-i-init c = (sym (parted_whole 0 c.args.text.now), omega arith)
