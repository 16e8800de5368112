use Rattle.std.proofs.Common.{if◌then◌else◌}
use Rattle.std.proofs.lemmas.Result.{err_from_is_err_and}
use Rattle.pf_asks.proofs.LedLaws.{tables_can_find}
use Rattle.pf_asks.specs.Tries.{ok}
use Rattle.pf_class.proofs.AskingLaws.{fault_first, ok_first, tail_led}
use Rattle.pf_class.proofs.LocalLaws.{hears_alias, hears_class}
use Rattle.pf_class.specs.Classes.{alias_class, class_of}
use Rattle.pf_class.specs.Local.{is_local}
use Rattle.pf_class.specs.declared.class.Class.TheVariants.{Local}
use Rattle.pf_class.proofs.domains.Domains.class_of.Goals as goal

pub returns-in_err-local : goal.returns-in_err-local
unfolding class_of
returns-in_err-local g c =
    let p = err_from_is_err_and c.from_residual.result c.from_residual.ensures.1 in
    rw (p.1, p.2) (fault_first _ _ (is_local c.args.self.now c.args.resolved.now.address.domain) (λ holds. if holds then ok Local else alias_class c.args.self.now c.args.resolved.now.address.domain) _
    (hears_class Local (alias_class c.args.self.now c.args.resolved.now.address.domain) (hears_alias c.args.self.now c.args.resolved.now.address.domain)) (rw c.as_slice-domain.ensures at c.in_err-local.ensures))

pub returns-then-local : goal.returns-then-local
unfolding class_of
returns-then-local g c = rw c.if-local.true at (ok_first _ _ (is_local c.args.self.now c.args.resolved.now.address.domain) (λ holds. if holds then ok Local else alias_class c.args.self.now c.args.resolved.now.address.domain) _ (rw c.as_slice-domain.ensures at c.in_ok-local.ensures))

pub alias_class-requires-clause-alias : goal.alias_class-requires-clause-alias
alias_class-requires-clause-alias g c = tables_can_find _ _ (is_local c.args.self.now c.args.resolved.now.address.domain) _ (rw c.as_slice-domain.ensures at c.in_ok-local.ensures) c.requires.alias

pub alias_class-requires-clause-mailbox : goal.alias_class-requires-clause-mailbox
alias_class-requires-clause-mailbox g c = tables_can_find _ _ (is_local c.args.self.now c.args.resolved.now.address.domain) _ (rw c.as_slice-domain.ensures at c.in_ok-local.ensures) c.requires.mailbox

pub alias_class-requires-clause-relay : goal.alias_class-requires-clause-relay
alias_class-requires-clause-relay g c = tables_can_find _ _ (is_local c.args.self.now c.args.resolved.now.address.domain) _ (rw c.as_slice-domain.ensures at c.in_ok-local.ensures) c.requires.relay

pub returns : goal.returns
unfolding class_of
returns g c =
    tail_led _ _ _ _ (alias_class c.args.self.now c.args.resolved.now.address.domain) c.alias_class.result (rw c.if-local.false at (ok_first _ _ (is_local c.args.self.now c.args.resolved.now.address.domain) (λ holds. if holds then ok Local else alias_class c.args.self.now c.args.resolved.now.address.domain) _ (rw c.as_slice-domain.ensures at c.in_ok-local.ensures)))
    (rw c.as_slice-domain.ensures at c.alias_class.ensures)
