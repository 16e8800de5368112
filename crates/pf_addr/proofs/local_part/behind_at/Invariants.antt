use Rattle.std.proofs.Common.{◌≡◌, ◌≤◌, length, take}
use Rattle.pf_addr.specs.Clauses.Reading as reading
use Rattle.pf_addr.proofs.local_part.behind_at.Given as goal

abbrev pub invariant-loop-end : goal.invariant-loop-end
invariant-loop-end l = (l.end ≤ length l.text) × (reading.behind_at l.text ≡ reading.behind_at (take l.end l.text))

abbrev pub decreases-loop-end : goal.decreases-loop-end
decreases-loop-end l = l.end
