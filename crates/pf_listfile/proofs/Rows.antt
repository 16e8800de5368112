-- Worked examples of the definitions, each by computation.
use Rattle.std.proofs.Common.{◌≡◌, ℕ, ◌++◌, Bool, true, false, List, [], ◌∷◌, None, Option, Some, Ok, Err, refl, codes, map}
use Rattle.std.specs.Net.Addr.{ipv4_bits, ipv6_bits}
use Rattle.std.specs.Net.Reader.{read_ipv4, read_ipv6, read_number, read_octet, read_segment, read_segments}
use Rattle.pf_asks.specs.declared.lookup.Found.{Found}
use Rattle.pf_asks.specs.declared.lookup.Found.TheVariants.{Value, Absent}
use Rattle.pf_base.specs.Refusal.{refused}
use Rattle.pf_base.specs.Results.{◌>>=◌}
use Rattle.pf_base.specs.Text.Ascii as ascii
use Rattle.pf_base.specs.Text.Words.{words_of}
use Rattle.pf_base.specs.declared.refused.Cause.TheVariants.{C1, C11}
use Rattle.pf_cidr.specs.Addresses.{address_of}
use Rattle.pf_cidr.specs.Nets.{Network, host_of, net_of, written_net}
use Rattle.pf_cidr.specs.declared.address.Addr.TheVariants.{V4, V6}
use Rattle.pf_listfile.specs.Items.{is_below, item_of}
use Rattle.pf_listfile.specs.ListFile.{found_in, items_of}
use Rattle.pf_listfile.specs.declared.item.Item.{Item}
use Rattle.pf_listfile.specs.declared.item.Pattern.{Pattern}
use Rattle.pf_listfile.specs.declared.item.Pattern.TheVariants.{Below, Name, Net}

abbrev yes : Pattern → Option Item
yes pattern = Some (record { pattern = pattern; excludes = false })

abbrev no : Pattern → Option Item
no pattern = Some (record { pattern = pattern; excludes = true })

-- words and the items that they write
abbrev words : List (List ℕ)
words =
    codes "Mail.Example.com"
    ∷ codes ".example.COM"
    ∷ codes "!a-b_c"
    ∷ codes "!.example.com"
    ∷ codes "10.0.0.1"
    ∷ codes "10.0.0.0/8"
    ∷ codes "!10.0.0.0/8"
    ∷ codes "[::1]"
    ∷ codes "[2001:db8::]/32"
    ∷ codes "![::1]"
    ∷ []

abbrev items : List (Option Item)
items =
    yes (Name (codes "mail.example.com"))
    ∷ yes (Below (codes "example.com"))
    ∷ no (Name (codes "a-b_c"))
    ∷ no (Below (codes "example.com"))
    ∷ yes (Name (codes "10.0.0.1"))
    ∷ yes (Net (record { addr = V4 167772160; prefix = 8 }))
    ∷ no (Net (record { addr = V4 167772160; prefix = 8 }))
    ∷ yes (Net (record { addr = V6 1; prefix = 128 }))
    ∷ yes (Net (record { addr = V6 0x20010db8000000000000000000000000; prefix = 32 }))
    ∷ no (Net (record { addr = V6 1; prefix = 128 }))
    ∷ []

items_are_read : map item_of words ≡ items
unfolding address_of host_of ipv4_bits ipv6_bits net_of written_net read_ipv4 read_ipv6 read_number read_octet read_segment read_segments
items_are_read = refl

-- words that write none
abbrev no_items : List (List ℕ)
no_items =
    codes "!"
    ∷ codes "!!a"
    ∷ codes "."
    ∷ codes "..a"
    ∷ codes "a..b"
    ∷ codes "a."
    ∷ codes "a@b"
    ∷ codes "@a"
    ∷ codes "*"
    ∷ codes "::1"
    ∷ codes "2001:db8::/32"
    ∷ codes "[10.0.0.1]"
    ∷ codes "[::1"
    ∷ codes "10.0.0.1/8"
    ∷ codes "10.0.0.0/33"
    ∷ codes "/etc/hosts"
    ∷ codes "texthash:t"
    ∷ codes "{a}"
    ∷ []

no_items_are_read : map item_of no_items ≡ map (λ word. None) no_items
unfolding address_of host_of ipv4_bits ipv6_bits net_of written_net read_ipv4 read_ipv6 read_number read_octet read_segment read_segments
no_items_are_read = refl

-- names that are below one, and others
names_below : map (is_below (codes "b.c")) (codes "a.b.c" ∷ codes "x.a.b.c" ∷ codes "b.c" ∷ codes ".b.c" ∷ codes "ab.c" ∷ codes "a.b.c.d" ∷ [])
    ≡ true ∷ true ∷ false ∷ false ∷ false ∷ false ∷ []
names_below = refl

-- a file, and what it has for keys
abbrev line : List ℕ → List ℕ
line text = text ++ ascii.line_feed ∷ []

abbrev file : List ℕ
file =
    line (codes "# hosts")
    ++ line (codes "!bad.example.com, .example.com")
    ++ line (codes "# a comment in a line that goes on")
    ++ line (codes "  !10.1.0.0/16 10.0.0.0/8")
    ++ line (codes "[2001:db8::]/32 Other.test 10.1.2.3")

abbrev keys : List (List ℕ)
keys =
    codes "bad.example.com"
    ∷ codes "a.bad.EXAMPLE.com"
    ∷ codes "example.com"
    ∷ codes "@.example.com"
    ∷ codes "@example.com"
    ∷ codes "@bad.example.com"
    ∷ codes "@other.test"
    ∷ codes "a.other.test"
    ∷ codes "10.1.2.3"
    ∷ codes "10.2.3.4"
    ∷ codes "@10.1.2.3"
    ∷ codes "@10.2.3.4"
    ∷ codes "11.0.0.1"
    ∷ codes "2001:db8::1"
    ∷ codes "[2001:db8::1]"
    ∷ []

abbrev is_yes : Found
is_yes = Value (codes "yes")

abbrev is_no : Found
is_no = Value (codes "no")

abbrev values : List Found
values =
    is_no ∷ is_yes ∷ Absent ∷ is_yes ∷ Absent ∷ is_no ∷ is_yes ∷ Absent ∷ is_no ∷ is_yes ∷ is_yes ∷ Absent ∷ Absent ∷ is_yes ∷ Absent ∷ []

keys_have_values : (items_of (codes "f") file >>= λ all. Ok (map (found_in all) keys)) ≡ Ok values
unfolding items_of words_of address_of host_of ipv4_bits ipv6_bits net_of written_net read_ipv4 read_ipv6 read_number read_octet read_segment read_segments
keys_have_values = refl

-- texts that are refused, each at its line
nothing_is_continued : items_of (codes "f") (codes " a") ≡ Err (refused (codes "f") 1 C1 [])
unfolding items_of
nothing_is_continued = refl

no_item_in_a_line : items_of (codes "f") (line (codes "a") ++ line (codes "b") ++ line (codes " c:d")) ≡ Err (refused (codes "f") 2 C11 (codes "item"))
unfolding items_of words_of address_of host_of ipv4_bits ipv6_bits net_of written_net read_ipv4 read_ipv6 read_number read_octet read_segment read_segments
no_item_in_a_line = refl

no_partner : items_of (codes "f") (codes "a {b") ≡ Err (refused (codes "f") 1 C11 (codes "item"))
unfolding items_of words_of
no_partner = refl

nothing_in_it : items_of (codes "f") (line (codes "# none")) ≡ Ok []
unfolding items_of words_of
nothing_in_it = refl
