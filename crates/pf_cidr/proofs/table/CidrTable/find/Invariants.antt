use Rattle.std.proofs.Common.{◌≡◌, ◌≤◌, drop}
use Rattle.pf_cidr.proofs.FindLaws.{walk}
use Rattle.pf_cidr.proofs.table.CidrTable.find.Given as goal

abbrev pub invariant-loop-entry : goal.invariant-loop-entry
invariant-loop-entry l =
    (l.skipped ≤ l.entry-index) × (l.rule ≤ l.entry-index)
    × (walk l.addr l.skipped l.rule (drop l.entry-index l.entry-items) ≡ walk l.addr 0 0 l.self.entries)
    × (l.entry-items ≡ l.self.entries)
