use Rattle.std.proofs.Common.{if◌then◌else◌}
use Rattle.std.proofs.lemmas.Result.{err_from_is_err_and}
use Rattle.pf_asks.proofs.LedLaws.{tables_can_find}
use Rattle.pf_asks.specs.Tries.{ok}
use Rattle.pf_class.proofs.AskingLaws.{fault_first, memory_first, ok_first, tail_led}
use Rattle.pf_class.proofs.LocalLaws.{hears_alias, hears_class, hears_mailbox}
use Rattle.pf_class.specs.Classes.{alias_class, mailbox_class}
use Rattle.pf_class.specs.Members.{is_member}
use Rattle.pf_class.specs.Subjects.{domain_subject}
use Rattle.pf_class.specs.declared.class.Class.TheVariants.{VirtualAlias}
use Rattle.pf_class.proofs.domains.Domains.alias_class.Goals as goal

pub returns-in_err-subject : goal.returns-in_err-subject
returns-in_err-subject g c =
    let p = err_from_is_err_and c.from_residual.result c.from_residual.ensures.1 in
    rw p.1 (memory_first _ (alias_class c.args.self.now c.args.domain.now) p.0 (hears_alias c.args.self.now c.args.domain.now) p.2)

pub returns-in_err-listed : goal.returns-in_err-listed
unfolding alias_class
returns-in_err-listed g c =
    let p = err_from_is_err_and c.from_residual-in_err-listed.result c.from_residual-in_err-listed.ensures.1 in
    rw (p.1, p.2) (fault_first _ _ (is_member c.args.self.now.virtual_alias_domains (domain_subject c.args.domain.now)) (λ holds. if holds then ok VirtualAlias else mailbox_class c.args.self.now c.args.domain.now) _
    (hears_class VirtualAlias (mailbox_class c.args.self.now c.args.domain.now) (hears_mailbox c.args.self.now c.args.domain.now)) (rw (c.as_slice.ensures, c.in_ok-subject.ensures) at c.in_err-listed.ensures))

pub returns-then-listed : goal.returns-then-listed
unfolding alias_class
returns-then-listed g c = rw c.if-listed.true at (ok_first _ _ (is_member c.args.self.now.virtual_alias_domains (domain_subject c.args.domain.now)) (λ holds. if holds then ok VirtualAlias else mailbox_class c.args.self.now c.args.domain.now) _ (rw (c.as_slice.ensures, c.in_ok-subject.ensures) at c.in_ok-listed.ensures))

pub mailbox_class-requires-clause-mailbox : goal.mailbox_class-requires-clause-mailbox
mailbox_class-requires-clause-mailbox g c = tables_can_find _ _ (is_member c.args.self.now.virtual_alias_domains (domain_subject c.args.domain.now)) _ (rw (c.as_slice.ensures, c.in_ok-subject.ensures) at c.in_ok-listed.ensures) c.requires.mailbox

pub mailbox_class-requires-clause-relay : goal.mailbox_class-requires-clause-relay
mailbox_class-requires-clause-relay g c = tables_can_find _ _ (is_member c.args.self.now.virtual_alias_domains (domain_subject c.args.domain.now)) _ (rw (c.as_slice.ensures, c.in_ok-subject.ensures) at c.in_ok-listed.ensures) c.requires.relay

pub returns : goal.returns
unfolding alias_class
returns g c =
    tail_led _ _ _ _ (mailbox_class c.args.self.now c.args.domain.now) c.mailbox_class.result (rw c.if-listed.false at (ok_first _ _ (is_member c.args.self.now.virtual_alias_domains (domain_subject c.args.domain.now)) (λ holds. if holds then ok VirtualAlias else mailbox_class c.args.self.now c.args.domain.now) _ (rw (c.as_slice.ensures, c.in_ok-subject.ensures) at c.in_ok-listed.ensures)))
    (c.mailbox_class.ensures)
