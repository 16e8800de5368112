-- Nets of addresses, how they are written, and which addresses they have (cidr_table(5)). That a prefix has no leading zeros is
-- postgate's own.
use Rattle.std.specs.Prelude.{◌≡◌, ◌≤◌, ℕ, ◌++◌, ◌-◌, ◌/◌, ◌%◌, ◌^◌, ◌==◌, ◌&&◌, Bool, true, false, not, nat_le, List, [], ◌∷◌, Option, Some, None, Result, Ok, Err, decimal, length, slice_index, slice_range, if◌then◌else◌}
use Rattle.std.specs.List.{after_first, before_first, list_any}
use Rattle.std.specs.Option.{option_and_then}
use Rattle.pf_base.specs.Text.Ascii as ascii
use Rattle.pf_base.specs.Options.{◌>>=◌}
use Rattle.pf_cidr.specs.Addresses.{IsWritten, address_of}
use Rattle.pf_base.specs.Text.Numbers.{decimal_within}
use Rattle.pf_cidr.specs.declared.address.Addr.{Addr}
use Rattle.pf_cidr.specs.declared.address.Addr.TheVariants.{V4, V6}
use Rattle.pf_cidr.specs.declared.net.NetFault.{NetFault}
use Rattle.pf_cidr.specs.declared.net.NetFault.TheVariants.{HostBits, Syntax}

-- an address, and how many of its first bits count
pub record Network : Type 0 where
  pub addr : Addr
  pub prefix : ℕ

-- how many bits an address has
abbrev pub width : Addr → ℕ
width (V4 bits) = 32
width (V6 bits) = 128

-- the bits of an address as a number, the first one the highest
abbrev pub bits_of : Addr → ℕ
bits_of (V4 bits) = bits
bits_of (V6 bits) = bits

-- both are IPv4, or both are IPv6
abbrev pub same_family : Addr → Addr → Bool
same_family (V4 a) (V4 b) = true
same_family (V4 a) (V6 b) = false
same_family (V6 a) (V4 b) = false
same_family (V6 a) (V6 b) = true

-- the first bits of an address, as a number
abbrev pub first_bits : ℕ → Addr → ℕ
first_bits prefix addr = bits_of addr / 2 ^ (width addr - prefix)

-- a net has the addresses of its family whose first bits are those of its own address
abbrev pub net_has : Network → Addr → Bool
net_has net addr = same_family net.addr addr && first_bits net.prefix addr == first_bits net.prefix net.addr

-- a bit after the prefix is set
abbrev pub has_host_bits : Network → Bool
has_host_bits net = not (bits_of net.addr % 2 ^ (width net.addr - net.prefix) == 0)

-- the address of a net as it is written: one of IPv6 may be in brackets
pub data IsHost (text : List ℕ) (addr : Addr) : Type 0 where
  plain : IsWritten text addr → IsHost text addr
  bracketed : (inside : List ℕ) (bits : ℕ) → IsWritten inside addr → addr ≡ V6 bits →
      text ≡ ascii.left_bracket ∷ inside ++ (ascii.right_bracket ∷ []) → IsHost text addr

-- a net as it is written: an address alone, or an address, a slash and in decimal how many of its first bits count
pub data IsNet (text : List ℕ) (net : Network) : Type 0 where
  whole : IsHost text net.addr → net.prefix ≡ width net.addr → IsNet text net
  part : (host : List ℕ) → IsHost host net.addr → text ≡ host ++ (ascii.slash ∷ decimal net.prefix) → net.prefix ≤ width net.addr → IsNet text net

-- what reading a text gives: the one net that it writes, or why there is none
abbrev pub Reads : List ℕ → Result Network NetFault → Type 0
Reads text (Ok net) = IsNet text net × (has_host_bits net ≡ false) × ((other : Network) → IsNet text other → other ≡ net)
Reads text (Err HostBits) = (net : Network) × IsNet text net × (has_host_bits net ≡ true)
Reads text (Err Syntax) = (net : Network) → ¬ (IsNet text net)

-- The same as values, read from the left.

-- an address that is IPv6
abbrev pub if_v6 : Addr → Option Addr
if_v6 (V4 bits) = None
if_v6 (V6 bits) = Some (V6 bits)

-- brackets round a text
abbrev pub is_in_brackets : List ℕ → Bool
is_in_brackets text = nat_le 2 (length text) && slice_index text 0 == ascii.left_bracket && slice_index text (length text - 1) == ascii.right_bracket

-- the address of a net: one of IPv6 may be in brackets
unfoldable pub host_of : List ℕ → Option Addr
host_of text = if is_in_brackets text then option_and_then if_v6 (address_of (slice_range text 1 (length text - 1))) else address_of text

abbrev pub is_slash : ℕ → Bool
is_slash b = b == ascii.slash

-- an address alone, all of whose bits count
abbrev pub alone : List ℕ → Option Network
alone text = do
  addr ← host_of text
  Some (record { addr = addr; prefix = width addr })

-- an address, a slash and how many of its first bits count
abbrev pub prefixed : List ℕ → Option Network
prefixed text = do
  addr ← host_of (before_first is_slash text)
  prefix ← decimal_within (width addr) (after_first is_slash text)
  Some (record { addr = addr; prefix = prefix })

-- the net that a text writes, whichever bits of its address are set
unfoldable pub written_net : List ℕ → Option Network
written_net text = if list_any is_slash text then prefixed text else alone text

abbrev pub unless_host_bits : Option Network → Result Network NetFault
unless_host_bits None = Err Syntax
unless_host_bits (Some net) = if has_host_bits net then Err HostBits else Ok net

-- the net that a text writes, or why it writes none
unfoldable pub net_of : List ℕ → Result Network NetFault
net_of text = unless_host_bits (written_net text)
