use Rattle.std.proofs.Common.{drop}
use Rattle.pf_asks.specs.Clauses.Led.{TablesLed}
use Rattle.pf_class.specs.Members.{first_value}
use Rattle.pf_class.proofs.members.first_value.Given as goal

abbrev pub invariant-loop-key : goal.invariant-loop-key
invariant-loop-key g l =
    TablesLed (g.T.Lookup.tables l.initial.tables) (g.T.Lookup.tables l.tables) (first_value l.id.0 l.keys) (first_value l.id.0 (drop l.key-index l.keys))
