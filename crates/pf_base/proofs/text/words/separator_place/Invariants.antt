use Rattle.std.proofs.Common.{◌≡◌, ◌≤◌, take, drop}
use Rattle.pf_base.specs.Text.Words.{parted}
use Rattle.pf_base.proofs.WordLemmas.{onto_part}
use Rattle.pf_base.proofs.text.words.separator_place.Given as goal

abbrev pub invariant-loop-i : goal.invariant-loop-i
invariant-loop-i l = (parted 0 l.text ≡ onto_part (take l.i l.text) (parted l.depth (drop l.i l.text))) × (l.depth ≤ l.i)
