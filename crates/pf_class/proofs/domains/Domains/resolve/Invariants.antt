use Rattle.std.proofs.Common.{length}
use Rattle.pf_asks.specs.Clauses.Led.{TablesLed}
use Rattle.pf_class.specs.Resolved.{resolved, resolved_from}
use Rattle.pf_class.specs.Standard.{address_of}
use Rattle.pf_class.proofs.domains.Domains.resolve.Given as goal

-- the question of the address has come down to that of what it is here
abbrev pub invariant-ways : goal.invariant-ways
invariant-ways g l =
    TablesLed (g.T.Lookup.tables l.initial.tables) (g.T.Lookup.tables l.tables) (resolved l.self l.address) (resolved_from l.self (address_of l.local l.domain) l.routed)

abbrev pub decreases-ways : goal.decreases-ways
decreases-ways g l = length l.local
