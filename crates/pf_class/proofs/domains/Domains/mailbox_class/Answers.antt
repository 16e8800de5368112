use Rattle.std.proofs.Common.{if◌then◌else◌}
use Rattle.std.proofs.lemmas.Result.{err_from_is_err_and}
use Rattle.pf_asks.proofs.LedLaws.{tables_can_find}
use Rattle.pf_asks.specs.Tries.{ok}
use Rattle.pf_class.proofs.AskingLaws.{fault_first, memory_first, ok_first, tail_led}
use Rattle.pf_class.proofs.LocalLaws.{hears_class, hears_mailbox, hears_relay}
use Rattle.pf_class.specs.Classes.{mailbox_class, relay_class}
use Rattle.pf_class.specs.Members.{is_member}
use Rattle.pf_class.specs.Subjects.{domain_subject}
use Rattle.pf_class.specs.declared.class.Class.TheVariants.{VirtualMailbox}
use Rattle.pf_class.proofs.domains.Domains.mailbox_class.Goals as goal

pub returns-in_err-subject : goal.returns-in_err-subject
returns-in_err-subject g c =
    let p = err_from_is_err_and c.from_residual.result c.from_residual.ensures.1 in
    rw p.1 (memory_first _ (mailbox_class c.args.self.now c.args.domain.now) p.0 (hears_mailbox c.args.self.now c.args.domain.now) p.2)

pub returns-in_err-listed : goal.returns-in_err-listed
unfolding mailbox_class
returns-in_err-listed g c =
    let p = err_from_is_err_and c.from_residual-in_err-listed.result c.from_residual-in_err-listed.ensures.1 in
    rw (p.1, p.2) (fault_first _ _ (is_member c.args.self.now.virtual_mailbox_domains (domain_subject c.args.domain.now)) (λ holds. if holds then ok VirtualMailbox else relay_class c.args.self.now c.args.domain.now) _
    (hears_class VirtualMailbox (relay_class c.args.self.now c.args.domain.now) (hears_relay c.args.self.now c.args.domain.now)) (rw (c.as_slice.ensures, c.in_ok-subject.ensures) at c.in_err-listed.ensures))

pub returns-then-listed : goal.returns-then-listed
unfolding mailbox_class
returns-then-listed g c = rw c.if-listed.true at (ok_first _ _ (is_member c.args.self.now.virtual_mailbox_domains (domain_subject c.args.domain.now)) (λ holds. if holds then ok VirtualMailbox else relay_class c.args.self.now c.args.domain.now) _ (rw (c.as_slice.ensures, c.in_ok-subject.ensures) at c.in_ok-listed.ensures))

pub relay_class-requires : goal.relay_class-requires
relay_class-requires g c = tables_can_find _ _ (is_member c.args.self.now.virtual_mailbox_domains (domain_subject c.args.domain.now)) _ (rw (c.as_slice.ensures, c.in_ok-subject.ensures) at c.in_ok-listed.ensures) c.requires.relay

pub returns : goal.returns
unfolding mailbox_class
returns g c =
    tail_led _ _ _ _ (relay_class c.args.self.now c.args.domain.now) c.relay_class.result (rw c.if-listed.false at (ok_first _ _ (is_member c.args.self.now.virtual_mailbox_domains (domain_subject c.args.domain.now)) (λ holds. if holds then ok VirtualMailbox else relay_class c.args.self.now c.args.domain.now) _ (rw (c.as_slice.ensures, c.in_ok-subject.ensures) at c.in_ok-listed.ensures)))
    (c.relay_class.ensures)
