-- Which domains are local (ADDRESS_CLASS_README; postconf(5), mydestination, inet_interfaces).
use Rattle.std.specs.Prelude.{ℕ, ◌==◌, ◌&&◌, ◌||◌, ◌-◌, Bool, false, List, Option, None, Some, codes, drop, length, slice_range, take, if◌then◌else◌}
use Rattle.std.specs.List.{list_any}
use Rattle.std.specs.Option.{option_and_then}
use Rattle.pf_asks.specs.Tries.{Try, ok, ◌>>=◌}
use Rattle.pf_base.specs.Text.Names.{same_in_any_case}
use Rattle.pf_cidr.specs.Addresses.{address_of}
use Rattle.pf_cidr.specs.Nets.{bits_of, if_v6, is_in_brackets, same_family}
use Rattle.pf_cidr.specs.declared.address.Addr.{Addr}
use Rattle.pf_cidr.specs.declared.address.Addr.TheVariants.{V4, V6}
use Rattle.pf_class.specs.Members.{is_member}
use Rattle.pf_class.specs.Subjects.{domain_subject}
use Rattle.pf_class.specs.declared.domains.Domains.{Domains}
use Rattle.pf_class.specs.declared.fault.ClassFault.{ClassFault}

abbrev pub same_address : Addr → Addr → Bool
same_address a b = same_family a b && bits_of a == bits_of b

-- an address is that of an own interface
abbrev pub is_own : List Addr → Addr → Bool
is_own own address = list_any (λ one. same_address one address) own

-- `IPv6:` in any case (RFC 5321, 4.1.3)
abbrev pub has_ipv6_tag : List ℕ → Bool
has_ipv6_tag text = same_in_any_case (take 5 text) (codes "IPv6:")

-- an address that is IPv4
abbrev pub if_v4 : Addr → Option Addr
if_v4 (V4 bits) = Some (V4 bits)
if_v4 (V6 bits) = None

-- the address within the brackets of a literal (RFC 5321, 4.1.3): IPv4, or IPv6 after its tag
unfoldable pub literal_inside : List ℕ → Option Addr
literal_inside inside =
    if has_ipv6_tag inside then option_and_then if_v6 (address_of (drop 5 inside)) else option_and_then if_v4 (address_of inside)

-- the address of a literal
unfoldable pub literal_address : List ℕ → Option Addr
literal_address domain = if is_in_brackets domain then literal_inside (slice_range domain 1 (length domain - 1)) else None

abbrev pub is_own_or_none : List Addr → Option Addr → Bool
is_own_or_none own None = false
is_own_or_none own (Some address) = is_own own address

-- a domain is a literal of an own interface
abbrev pub is_own_literal : List Addr → List ℕ → Bool
is_own_literal own domain = is_own_or_none own (literal_address domain)

-- a domain is local: mydestination has it, or else it is a literal of an own interface
unfoldable pub is_local : Domains → List ℕ → Try ClassFault Bool
is_local domains domain = do
  listed ← is_member domains.mydestination (domain_subject domain)
  ok (listed || is_own_literal domains.own domain)
