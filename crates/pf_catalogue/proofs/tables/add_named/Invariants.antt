use Rattle.std.proofs.Common.{drop}
use Rattle.pf_catalogue.specs.Clauses.Adding.{AddsUpTo}
use Rattle.pf_catalogue.specs.Tables.{tables_named}
use Rattle.pf_catalogue.proofs.tables.add_named.Given as goal

abbrev pub invariant-loop-item : goal.invariant-loop-item
invariant-loop-item l = AddsUpTo l.line l.initial.specs l.specs (tables_named l.items) (tables_named (drop l.item-index l.items))
