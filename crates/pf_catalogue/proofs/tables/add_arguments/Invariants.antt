use Rattle.std.proofs.Common.{drop}
use Rattle.pf_catalogue.specs.Clauses.Adding.{AddsUpTo}
use Rattle.pf_catalogue.specs.Tables.{table_arguments}
use Rattle.pf_catalogue.specs.declared.arguments.Argument.TheVariants.{Nothing}
use Rattle.pf_catalogue.proofs.tables.add_arguments.Given as goal

abbrev pub invariant-loop-item : goal.invariant-loop-item
invariant-loop-item l = AddsUpTo l.line l.initial.specs l.specs (table_arguments l.kind Nothing l.items) (table_arguments l.kind l.wanted (drop l.item-index l.items))
