use Rattle.std.proofs.Common.{◌≡◌, ◌++◌, drop}
use Rattle.pf_class.specs.Subjects.{parents}
use Rattle.pf_class.proofs.subject.add_parents.Given as goal

abbrev pub invariant-loop-i : goal.invariant-loop-i
invariant-loop-i l = l.parents ++ parents (drop l.i l.domain) ≡ l.initial.parents ++ parents l.domain
