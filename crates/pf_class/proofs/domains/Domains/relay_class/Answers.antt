use Rattle.std.proofs.Common.{if◌then◌else◌}
use Rattle.std.proofs.lemmas.Result.{err_from_is_err_and}
use Rattle.pf_asks.specs.Tries.{ok}
use Rattle.pf_class.proofs.AskingLaws.{fault_first, memory_first, ok_first}
use Rattle.pf_class.proofs.LocalLaws.{hears_class, hears_relay}
use Rattle.pf_class.proofs.MemberLaws.{hears_ok}
use Rattle.pf_class.specs.Classes.{relay_class}
use Rattle.pf_class.specs.Members.{is_member}
use Rattle.pf_class.specs.Subjects.{subdomain_subject}
use Rattle.pf_class.specs.declared.class.Class.TheVariants.{Default, Relay}
use Rattle.pf_class.proofs.domains.Domains.relay_class.Goals as goal

pub returns-in_err-subject : goal.returns-in_err-subject
returns-in_err-subject g c =
    let p = err_from_is_err_and c.from_residual.result c.from_residual.ensures.1 in
    rw p.1 (memory_first _ (relay_class c.args.self.now c.args.domain.now) p.0 (hears_relay c.args.self.now c.args.domain.now) p.2)

pub returns-in_err-listed : goal.returns-in_err-listed
unfolding relay_class
returns-in_err-listed g c =
    let p = err_from_is_err_and c.from_residual-in_err-listed.result c.from_residual-in_err-listed.ensures.1 in
    rw (p.1, p.2) (fault_first _ _ (is_member c.args.self.now.relay_domains (subdomain_subject c.args.domain.now)) (λ holds. if holds then ok Relay else ok Default) _
    (hears_class Relay (ok Default) (hears_ok Default)) (rw (c.as_slice.ensures, c.in_ok-subject.ensures) at c.in_err-listed.ensures))

pub returns-then-listed : goal.returns-then-listed
unfolding relay_class
returns-then-listed g c = rw c.if-listed.true at (ok_first _ _ (is_member c.args.self.now.relay_domains (subdomain_subject c.args.domain.now)) (λ holds. if holds then ok Relay else ok Default) _ (rw (c.as_slice.ensures, c.in_ok-subject.ensures) at c.in_ok-listed.ensures))

pub returns : goal.returns
unfolding relay_class
returns g c = rw c.if-listed.false at (ok_first _ _ (is_member c.args.self.now.relay_domains (subdomain_subject c.args.domain.now)) (λ holds. if holds then ok Relay else ok Default) _ (rw (c.as_slice.ensures, c.in_ok-subject.ensures) at c.in_ok-listed.ensures))
