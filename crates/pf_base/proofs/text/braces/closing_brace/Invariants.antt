use Rattle.std.proofs.Common.{◌≡◌, ◌≤◌, ◌+◌, drop}
use Rattle.std.specs.Option.{option_map}
use Rattle.pf_base.specs.Text.Braces.{partner}
use Rattle.pf_base.proofs.text.braces.closing_brace.Given as goal

abbrev pub invariant-loop-i : goal.invariant-loop-i
invariant-loop-i l = (partner 0 l.text ≡ option_map (λ n. l.i + n) (partner l.depth (drop l.i l.text))) × (l.depth ≤ l.i)
