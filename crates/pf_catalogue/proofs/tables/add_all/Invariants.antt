use Rattle.std.proofs.Common.{drop}
use Rattle.pf_catalogue.specs.Clauses.Adding.{AddsUpTo}
use Rattle.pf_catalogue.proofs.tables.add_all.Given as goal

abbrev pub invariant-loop-item : goal.invariant-loop-item
invariant-loop-item l = AddsUpTo l.line l.initial.specs l.specs l.items (drop l.item-index l.items)
