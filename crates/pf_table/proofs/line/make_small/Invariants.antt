use Rattle.std.proofs.Common.{◌≡◌, ◌++◌, drop, map, take}
use Rattle.std.specs.Char.{to_ascii_lowercase}
use Rattle.pf_table.proofs.line.make_small.Given as goal

abbrev pub invariant-loop-i : goal.invariant-loop-i
invariant-loop-i l = l.text ≡ map to_ascii_lowercase (take l.i l.initial.text) ++ drop l.i l.initial.text
