use Rattle.std.proofs.Common.{◌≡◌, ◌≤◌, drop}
use Rattle.pf_base.specs.Text.Braces.{lone_brace}
use Rattle.pf_base.proofs.BraceLemmas.{found_from}
use Rattle.pf_base.proofs.text.braces.lone_brace.Given as goal

abbrev pub invariant-loop-i : goal.invariant-loop-i
invariant-loop-i l = (lone_brace 0 l.text ≡ found_from l.i l.depth l.outer (drop l.i l.text)) × (l.depth ≤ l.i)
