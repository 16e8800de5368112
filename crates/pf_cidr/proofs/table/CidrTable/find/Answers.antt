use Rattle.std.proofs.Common.{◌≡◌, ◌<◌, [], length, subst, sym, arith}
use Rattle.std.specs.Prelude.{IfSome}
use Rattle.pf_cidr.specs.Tables.{rules_of}
use Rattle.pf_cidr.proofs.CountLaws.{rule_within}
use Rattle.pf_cidr.proofs.FindLaws.{found, not_found}
use Rattle.pf_cidr.proofs.table.CidrTable.find.Goals as goal

pub returns-then-matches-clause-is : goal.returns-then-matches-clause-is
returns-then-matches-clause-is c =
    found c.args.addr.now c.args.self.now.entries _ c.loop-entry.entry-index c.loop-entry.skipped c.loop-entry.rule c.entry-item.result c.in-Rule.pattern
    (omega arith) c.entry-item.is c.in-Rule.is (omega (arith, c.if-skipped-eq0.true)) (sym c.if-matches.ensures) c.loop-entry.invariant.2

pub returns-then-matches-clause-within : goal.returns-then-matches-clause-within
returns-then-matches-clause-within c =
    let within = subst (λ r. IfSome r (λ rule. rule < length (rules_of [] c.args.self.now.entries))) (sym (returns-then-matches-clause-is c)) (rule_within c.args.addr.now c.args.self.now.entries) in
    let counted : length c.args.self.now.results ≡ length (rules_of [] c.args.self.now.entries) = rw (← c.self.view_is) c.self.invariant in
    omega (arith, within, counted)

pub returns-clause-is : goal.returns-clause-is
returns-clause-is c =
    not_found c.args.addr.now c.args.self.now.entries _ c.loop-entry.entry-index c.loop-entry.skipped c.loop-entry.rule
    (omega arith) c.loop-entry.invariant.2
