-- Addresses of hosts, and how they are written and printed (RFC 4291, 2.2; RFC 5952, 4). That an IPv4 number has no leading zeros, and
-- that an IPv6 address is printed as groups alone, are postgate's own.
use Rattle.std.specs.Prelude.{◌≡◌, ℕ, List, Option, Some, None, option_map}
use Rattle.std.specs.Int.{w128, w32, to_be_bytes}
use Rattle.std.specs.Option.{option_or}
use Rattle.std.specs.declared.net.ip_addr.IpAddr.{IpAddr}
use Rattle.std.specs.declared.net.ip_addr.IpAddr.TheVariants as family
use Rattle.std.specs.Net.Addr.{ipv4_bits, ipv6_bits, segments_of}
use Rattle.std.specs.Net.Grammar.{IsIpText}
use Rattle.std.specs.Net.Reader.{read_ipv4, read_ipv6, whole_value}
use Rattle.std.specs.Net.Text.{hex_groups_text, ipv4_text}
use Rattle.pf_cidr.specs.declared.address.Addr.{Addr}
use Rattle.pf_cidr.specs.declared.address.Addr.TheVariants.{V4, V6}

-- the address with these octets or groups: their bits, the first one the highest
abbrev pub address_with : IpAddr → Addr
address_with (family.V4 a) = V4 (ipv4_bits a)
address_with (family.V6 a) = V6 (ipv6_bits a)

-- the text writes the address, by the grammar of std
abbrev pub IsWritten : List ℕ → Addr → Type 0
IsWritten text addr = (ip : IpAddr) × IsIpText text ip × (addr ≡ address_with ip)

-- what reading a text gives: the one address that it writes, or nothing where it writes none
abbrev pub Reads : List ℕ → Option Addr → Type 0
Reads text (Some addr) = IsWritten text addr × ((other : Addr) → IsWritten text other → other ≡ addr)
Reads text None = (addr : Addr) → ¬ (IsWritten text addr)

-- the address of four octets
abbrev pub octets_address : List ℕ → Addr
octets_address octets = address_with (family.V4 (record { octets = octets }))

-- the address of eight groups
abbrev pub groups_address : List ℕ → Addr
groups_address groups = address_with (family.V6 (record { segments = groups }))

-- the address that a text writes, as a value: read from the left
unfoldable pub address_of : List ℕ → Option Addr
address_of text =
    option_or (option_map octets_address (whole_value (read_ipv4 text))) (option_map groups_address (whole_value (read_ipv6 text)))

-- an address as it is printed
abbrev pub printed : Addr → List ℕ
printed (V4 bits) = ipv4_text (to_be_bytes w32 bits)
printed (V6 bits) = hex_groups_text (segments_of (to_be_bytes w128 bits))
