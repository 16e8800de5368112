-- What is to be heard of the questions whether a domain is local, and which class it has.
use Rattle.std.proofs.Common.{ℕ, Bool, true, false, List, if◌then◌else◌}
use Rattle.pf_asks.specs.Tries.{Try, ok}
use Rattle.pf_cidr.specs.declared.address.Addr.{Addr}
use Rattle.pf_class.proofs.AskingLaws.{hears_next}
use Rattle.pf_class.proofs.MemberLaws.{hears_member, hears_ok}
use Rattle.pf_class.specs.Classes.{alias_class, class_of, in_networks, mailbox_class, or_after, relay_class}
use Rattle.pf_class.specs.Clauses.Asking.{HearsOn}
use Rattle.pf_class.specs.Local.{is_local}
use Rattle.pf_class.specs.Subjects.{address_subject, domain_subject, subdomain_subject}
use Rattle.pf_class.specs.declared.class.Class.{Class}
use Rattle.pf_class.specs.declared.domains.Domains.{Domains}
use Rattle.pf_class.specs.declared.fault.ClassFault.{ClassFault}

pub hears_local : (domains : Domains) (domain : List ℕ) → HearsOn (is_local domains domain)
unfolding is_local
hears_local domains domain = hears_next _ (hears_member domains.mydestination (domain_subject domain)) (λ listed. hears_ok _)

pub hears_class : (class : Class) (behind : Try ClassFault Class) → HearsOn behind → (holds : Bool) → HearsOn (if holds then ok class else behind)
hears_class class behind hears true = hears_ok class
hears_class class behind hears false = hears

pub hears_after : (test : Try ClassFault Bool) (class : Class) (behind : Try ClassFault Class) → HearsOn test → HearsOn behind → HearsOn (or_after test class behind)
hears_after test class behind first hears = hears_next _ first (hears_class class behind hears)

pub hears_relay : (domains : Domains) (domain : List ℕ) → HearsOn (relay_class domains domain)
unfolding relay_class
hears_relay domains domain = hears_after _ _ _ (hears_member domains.relay_domains (subdomain_subject domain)) (hears_ok _)

pub hears_mailbox : (domains : Domains) (domain : List ℕ) → HearsOn (mailbox_class domains domain)
unfolding mailbox_class
hears_mailbox domains domain = hears_after _ _ _ (hears_member domains.virtual_mailbox_domains (domain_subject domain)) (hears_relay domains domain)

pub hears_alias : (domains : Domains) (domain : List ℕ) → HearsOn (alias_class domains domain)
unfolding alias_class
hears_alias domains domain = hears_after _ _ _ (hears_member domains.virtual_alias_domains (domain_subject domain)) (hears_mailbox domains domain)

pub hears_class_of : (domains : Domains) (domain : List ℕ) → HearsOn (class_of domains domain)
unfolding class_of
hears_class_of domains domain = hears_after _ _ _ (hears_local domains domain) (hears_alias domains domain)

pub hears_networks : (domains : Domains) (address : Addr) → HearsOn (in_networks domains address)
unfolding in_networks
hears_networks domains address = hears_member domains.mynetworks (address_subject address)
