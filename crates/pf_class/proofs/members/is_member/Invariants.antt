use Rattle.std.proofs.Common.{drop}
use Rattle.pf_asks.specs.Clauses.Led.{TablesLed}
use Rattle.pf_class.specs.Members.{is_member}
use Rattle.pf_class.proofs.members.is_member.Given as goal

abbrev pub invariant-loop-item : goal.invariant-loop-item
invariant-loop-item g l =
    TablesLed (g.T.Lookup.tables l.initial.tables) (g.T.Lookup.tables l.tables) (is_member l.items l.subject) (is_member (drop l.item-index l.items) l.subject)
