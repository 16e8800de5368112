-- Worked examples of the definitions, each by computation.
use Rattle.std.proofs.Common.{◌≡◌, ℕ, true, false, List, [], ◌∷◌, None, Option, Some, Result, Ok, Err, refl, codes, map}
use Rattle.std.specs.Fmt.{digits}
use Rattle.std.specs.Net.Addr.{ipv4_bits, ipv6_bits}
use Rattle.std.specs.Net.Reader.{read_ipv4, read_ipv6, read_number, read_octet, read_segment, read_segments}
use Rattle.std.specs.Net.Text.{hex, hex_groups_text}
use Rattle.pf_cidr.specs.Addresses.{address_of, printed}
use Rattle.pf_cidr.specs.Nets.{Network, host_of, net_has, net_of, written_net}
use Rattle.pf_cidr.specs.Tables.{Line, entry_of, first_rule, first_unclosed, reason_text, refused, table_of}
use Rattle.pf_cidr.specs.declared.address.Addr.{Addr}
use Rattle.pf_cidr.specs.declared.address.Addr.TheVariants.{V4, V6}
use Rattle.pf_base.specs.declared.refused.Cause.TheVariants.{C11}
use Rattle.pf_cidr.specs.declared.entry.Entry.{Entry}
use Rattle.pf_cidr.specs.declared.entry.Entry.TheVariants.{Endif, If, Rule}
use Rattle.pf_cidr.specs.declared.entry.Pattern.{Pattern}
use Rattle.pf_cidr.specs.declared.net.NetFault.{NetFault}
use Rattle.pf_cidr.specs.declared.net.NetFault.TheVariants.{HostBits, Syntax}
use Rattle.pf_cidr.specs.declared.reason.Reason.{Reason}
use Rattle.pf_cidr.specs.declared.reason.Reason.TheVariants as reason

-- texts and the addresses that they write
abbrev texts : List (List ℕ)
texts =
    codes "0.0.0.0"
    ∷ codes "10.1.2.3"
    ∷ codes "255.255.255.255"
    ∷ codes "::"
    ∷ codes "::1"
    ∷ codes "2001:DB8:0:0:1:0:0:1"
    ∷ codes "::ffff:127.0.0.1"
    ∷ codes "1:2:3:4:5:6:7::"
    ∷ []

abbrev addresses : List Addr
addresses =
    V4 0
    ∷ V4 167838211
    ∷ V4 4294967295
    ∷ V6 0
    ∷ V6 1
    ∷ V6 0x20010db8000000000001000000000001
    ∷ V6 0xffff7f000001
    ∷ V6 0x00010002000300040005000600070000
    ∷ []

texts_are_read : map address_of texts ≡ map Some addresses
unfolding address_of ipv4_bits ipv6_bits read_ipv4 read_ipv6 read_number read_octet read_segment read_segments
texts_are_read = refl

-- texts that write none
abbrev no_addresses : List (List ℕ)
no_addresses =
    []
    ∷ codes "1.2.3"
    ∷ codes "1.2.3.04"
    ∷ codes "1.2.3.256"
    ∷ codes "1.2.3.4 "
    ∷ codes "1::2::3"
    ∷ codes "1:2:3:4::5:6:7:8"
    ∷ codes "12345::"
    ∷ codes "::1.2.3.4:5"
    ∷ codes "[::1]"
    ∷ []

abbrev nothing : List (List ℕ) → List (Option Addr)
nothing texts = map (λ text. None) texts

no_addresses_are_not_read : map address_of no_addresses ≡ nothing no_addresses
unfolding address_of ipv4_bits ipv6_bits read_ipv4 read_ipv6 read_number read_octet read_segment read_segments
no_addresses_are_not_read = refl

-- addresses and how they are printed
addresses_are_printed : map printed addresses
    ≡ codes "0.0.0.0"
    ∷ codes "10.1.2.3"
    ∷ codes "255.255.255.255"
    ∷ codes "::"
    ∷ codes "::1"
    ∷ codes "2001:db8::1:0:0:1"
    ∷ codes "::ffff:7f00:1"
    ∷ codes "1:2:3:4:5:6:7:0"
    ∷ []
unfolding digits hex hex_groups_text
addresses_are_printed = refl

-- texts and the nets that they write
abbrev net_texts : List (List ℕ)
net_texts =
    codes "10.0.0.0/8"
    ∷ codes "192.0.2.9"
    ∷ codes "0.0.0.0/0"
    ∷ codes "[2001:db8::]/32"
    ∷ codes "::1"
    ∷ codes "[::1]"
    ∷ codes "10.0.0.1/8"
    ∷ codes "128.0.0.0/0"
    ∷ codes "10.0.0.0/33"
    ∷ codes "10.0.0.0/08"
    ∷ codes "10.0.0.0/"
    ∷ codes "[10.0.0.0]/8"
    ∷ codes "[2001:db8::/32]"
    ∷ codes "joe"
    ∷ []

abbrev nets : List (Result Network NetFault)
nets =
    Ok (record { addr = V4 167772160; prefix = 8 })
    ∷ Ok (record { addr = V4 3221225993; prefix = 32 })
    ∷ Ok (record { addr = V4 0; prefix = 0 })
    ∷ Ok (record { addr = V6 0x20010db8000000000000000000000000; prefix = 32 })
    ∷ Ok (record { addr = V6 1; prefix = 128 })
    ∷ Ok (record { addr = V6 1; prefix = 128 })
    ∷ Err HostBits
    ∷ Err HostBits
    ∷ Err Syntax
    ∷ Err Syntax
    ∷ Err Syntax
    ∷ Err Syntax
    ∷ Err Syntax
    ∷ Err Syntax
    ∷ []

nets_are_read : map net_of net_texts ≡ nets
unfolding address_of host_of ipv4_bits ipv6_bits net_of written_net read_ipv4 read_ipv6 read_number read_octet read_segment read_segments
nets_are_read = refl

-- the net 10.0.0.0/8 and addresses at its ends, and one that says the same in IPv6
abbrev ten : Network
ten = record { addr = V4 167772160; prefix = 8 }

ends_of_a_net : map (net_has ten) (V4 167772159 ∷ V4 167772160 ∷ V4 184549375 ∷ V4 184549376 ∷ V6 0xffff0a000000 ∷ [])
    ≡ false ∷ true ∷ true ∷ false ∷ false ∷ []
ends_of_a_net = refl

prefix_of_none_has_its_family : map (net_has (record { addr = V6 0; prefix = 0 })) (V6 0xffffffffffffffffffffffffffffffff ∷ V4 0 ∷ []) ≡ true ∷ false ∷ []
prefix_of_none_has_its_family = refl

-- lines and what they say
abbrev plain : Pattern
plain = record { negated = false; net = ten }

abbrev negated : Pattern
negated = record { negated = true; net = ten }

abbrev lines : List (List ℕ)
lines =
    codes "10.0.0.0/8 OK"
    ∷ codes "!10.0.0.0/8 OK"
    ∷ codes "if 10.0.0.0/8"
    ∷ codes "IF  !10.0.0.0/8 "
    ∷ codes "EndIf "
    ∷ codes "10.0.0.0/8 "
    ∷ codes "10.0.0.1/8"
    ∷ codes "10.0.0.0/33"
    ∷ codes "! 10.0.0.0/8 OK"
    ∷ codes "if"
    ∷ codes "if 10.0.0.0/8 OK"
    ∷ codes "endif OK"
    ∷ []

abbrev entries : List (Result Entry Reason)
entries =
    Ok (Rule plain)
    ∷ Ok (Rule negated)
    ∷ Ok (If plain)
    ∷ Ok (If negated)
    ∷ Ok Endif
    ∷ Err reason.NoValue
    ∷ Err reason.HostBits
    ∷ Err reason.Pattern
    ∷ Err reason.Pattern
    ∷ Err reason.Pattern
    ∷ Err reason.Pattern
    ∷ Err reason.Pattern
    ∷ []

lines_are_read : map entry_of lines ≡ entries
unfolding address_of entry_of host_of ipv4_bits ipv6_bits net_of written_net read_ipv4 read_ipv6 read_number read_octet read_segment read_segments
lines_are_read = refl

-- a table, and the first of its rules that applies to an address
abbrev walked : List Entry
walked = If plain ∷ Rule negated ∷ If negated ∷ Rule plain ∷ Endif ∷ Rule plain ∷ Endif ∷ Rule negated ∷ []

rules_that_apply : map (first_rule walked) (V4 167772160 ∷ V4 0 ∷ V6 1 ∷ []) ≡ Some 2 ∷ Some 3 ∷ Some 3 ∷ []
unfolding first_rule
rules_that_apply = refl

no_rule_applies : first_rule (If plain ∷ Rule plain ∷ Endif ∷ []) (V4 0) ≡ None
unfolding first_rule
no_rule_applies = refl

-- tables whose conditions are not closed, and one that closes none
abbrev line : ℕ → Entry → Line
line number entry = record { number = number; entry = entry; value = [] }

unclosed_conditions : map first_unclosed
    ((line 1 (If plain) ∷ line 2 Endif ∷ [])
    ∷ (line 1 (If plain) ∷ line 2 (If plain) ∷ line 3 Endif ∷ [])
    ∷ (line 1 (If plain) ∷ line 2 Endif ∷ line 3 (If plain) ∷ line 4 (If plain) ∷ line 5 Endif ∷ [])
    ∷ [])
    ≡ None ∷ Some 1 ∷ Some 3 ∷ []
unclosed_conditions = refl

first_line_refused : table_of (codes "n") (codes "# nets\n10.0.0.1/8 OK\nendif\n") ≡ Err (refused (codes "n") 2 C11 (codes "host bits"))
unfolding address_of entry_of host_of ipv4_bits ipv6_bits net_of written_net read_ipv4 read_ipv6 read_number read_octet read_segment read_segments reason_text table_of
first_line_refused = refl

nothing_to_close : table_of (codes "n") (codes "endif\n") ≡ Err (refused (codes "n") 1 C11 (codes "endif without if"))
unfolding entry_of reason_text table_of
nothing_to_close = refl

never_closed : table_of (codes "n") (codes "if ::/0\n10.0.0.0/8 OK\n") ≡ Err (refused (codes "n") 1 C11 (codes "if without endif"))
unfolding address_of entry_of host_of ipv4_bits ipv6_bits net_of written_net read_ipv4 read_ipv6 read_number read_octet read_segment read_segments reason_text table_of
never_closed = refl
