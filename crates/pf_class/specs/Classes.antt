-- The classes of addresses (ADDRESS_CLASS_README), and which clients are of mynetworks (postconf(5), mynetworks).
use Rattle.std.specs.Prelude.{ℕ, Bool, List, if◌then◌else◌}
use Rattle.pf_asks.specs.Tries.{Try, ok, ◌>>=◌}
use Rattle.pf_cidr.specs.declared.address.Addr.{Addr}
use Rattle.pf_class.specs.Local.{is_local}
use Rattle.pf_class.specs.Members.{is_member}
use Rattle.pf_class.specs.Subjects.{address_subject, domain_subject, subdomain_subject}
use Rattle.pf_class.specs.declared.class.Class.{Class}
use Rattle.pf_class.specs.declared.class.Class.TheVariants.{Local, VirtualAlias, VirtualMailbox, Relay, Default}
use Rattle.pf_class.specs.declared.domains.Domains.{Domains}
use Rattle.pf_class.specs.declared.fault.ClassFault.{ClassFault}

-- the class is this one where a test holds, and else that which comes after it
abbrev pub or_after : Try ClassFault Bool → Class → Try ClassFault Class → Try ClassFault Class
or_after test class behind = do
  holds ← test
  if holds then ok class else behind

-- relay_domains has the domain or one of its parents
unfoldable pub relay_class : Domains → List ℕ → Try ClassFault Class
relay_class domains domain = or_after (is_member domains.relay_domains (subdomain_subject domain)) Relay (ok Default)

unfoldable pub mailbox_class : Domains → List ℕ → Try ClassFault Class
mailbox_class domains domain =
    or_after (is_member domains.virtual_mailbox_domains (domain_subject domain)) VirtualMailbox (relay_class domains domain)

unfoldable pub alias_class : Domains → List ℕ → Try ClassFault Class
alias_class domains domain =
    or_after (is_member domains.virtual_alias_domains (domain_subject domain)) VirtualAlias (mailbox_class domains domain)

-- the first of these that applies
unfoldable pub class_of : Domains → List ℕ → Try ClassFault Class
class_of domains domain = or_after (is_local domains domain) Local (alias_class domains domain)

-- an address is in mynetworks
unfoldable pub in_networks : Domains → Addr → Try ClassFault Bool
in_networks domains address = is_member domains.mynetworks (address_subject address)
