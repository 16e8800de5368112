use Rattle.std.proofs.Common.{◌≡◌, drop}
use Rattle.std.specs.Prelude.{◌==◌}
use Rattle.std.specs.List.{position_from}
use Rattle.pf_pcre.proofs.pieces.place_of.Given as goal

abbrev pub invariant-loop-i : goal.invariant-loop-i
invariant-loop-i l = position_from (λ b. b == l.byte) 0 l.text ≡ position_from (λ b. b == l.byte) l.i (drop l.i l.text)
