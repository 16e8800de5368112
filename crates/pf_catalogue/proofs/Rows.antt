-- Worked examples of the definitions, each by computation.
use Rattle.std.proofs.Common.{◌≡◌, ℕ, ◌&&◌, Bool, true, false, List, [], ◌∷◌, None, Some, is_lt, is_some, length, map, nat_cmp, refl, codes, replicate, ◌++◌, Bor}
use Rattle.std.specs.Cmp.Lexicographic.{slice_cmp}
use Rattle.std.specs.List.{list_all}
use Rattle.std.specs.Net.Addr.{ipv4_bits, ipv6_bits}
use Rattle.std.specs.Net.Reader.{read_ipv4, read_ipv6, read_number, read_octet, read_segment, read_segments}
use Rattle.pf_base.specs.TableTexts.{TableTexts}
use Rattle.pf_base.specs.Text.Words.{words_of}
use Rattle.pf_base.specs.Meanings.{Source}
use Rattle.pf_base.specs.declared.meaning.Meaning.TheVariants.{Is, DomainOf}
use Rattle.pf_base.specs.declared.table_texts.TableText.{TableText}
use Rattle.pf_cidr.specs.Addresses.{address_of}
use Rattle.pf_cidr.specs.Nets.{host_of, net_of, written_net}
use Rattle.pf_catalogue.specs.Arguments.{argument_of}
use Rattle.pf_catalogue.specs.Catalogue.{Row, catalogue, place_of, row, row_at}
use Rattle.pf_catalogue.specs.Clients.{are_rewrite_clients}
use Rattle.pf_catalogue.specs.Hosts.{are_hosts, are_interfaces, are_networks}
use Rattle.pf_catalogue.specs.Lists.{table_in}
use Rattle.pf_catalogue.specs.Numbers.{number_within}
use Rattle.pf_catalogue.specs.Clauses.RowsMeant.{row_meant}
use Rattle.pf_catalogue.specs.Tables.{tables_of, with_texts}
use Rattle.pf_catalogue.specs.Values.{value_of}
use Rattle.pf_catalogue.specs.declared.arguments.Argument.TheVariants as argument
use Rattle.pf_catalogue.specs.declared.kind.Kind.{Kind}
use Rattle.pf_catalogue.specs.declared.kind.Kind.TheVariants as kind
use Rattle.pf_catalogue.specs.declared.value.Value.TheVariants.{Text, Number, Yes, Items}

-- the table: each name is after the one before it in the order of bytes
abbrev rising : List ℕ → List Row → Bool
rising before [] = true
rising before (r ∷ rows) = is_lt (slice_cmp nat_cmp before r.name) && rising r.name rows

names_rise : rising [] catalogue ≡ true
unfolding catalogue
names_rise = refl

how_many : length catalogue ≡ 77
unfolding catalogue
how_many = refl

-- places: of the first, the middle and the last name; with one byte more, with one less, with a capital, of no byte, of a parameter that is not in it
places : map place_of
    (codes "access_map_defer_code" ∷ codes "relay_recipient_maps" ∷ codes "virtual_mailbox_maps" ∷ codes "virtual_mailbox_maps2"
    ∷ codes "virtual_mailbox_map" ∷ codes "Myhostname" ∷ [] ∷ codes "smtpd_reject_unlisted_sender" ∷ [])
    ≡ Some 0 ∷ Some 38 ∷ Some 76 ∷ None ∷ None ∷ None ∷ None ∷ None ∷ []
unfolding catalogue
places = refl

-- rows: the first, a number, a domain, the last, and the empty one where there is none
rows_there : map row_at (0 ∷ 11 ∷ 25 ∷ 76 ∷ 77 ∷ [])
    ≡ row (codes "access_map_defer_code") kind.Code (Is (codes "450"))
    ∷ row (codes "header_size_limit") (kind.Number 100 10000000) (Is (codes "102400"))
    ∷ row (codes "mydomain") kind.Text (DomainOf (codes "myhostname"))
    ∷ row (codes "virtual_mailbox_maps") kind.Maps (Is []) ∷ row [] kind.Text (Is []) ∷ []
unfolding catalogue
rows_there = refl

rows_of_the_code : (name other : Bor (List ℕ))
    → map row_meant (record { 0 = name; 1 = kind.Maps; 2 = Is other } ∷ record { 0 = name; 1 = kind.Yes; 2 = DomainOf other } ∷ [])
    ≡ row name.now kind.Maps (Is other.now) ∷ row name.now kind.Yes (DomainOf other.now) ∷ []
rows_of_the_code name other = refl

-- each default that is a text is a value of its kind
abbrev is_value : Kind → Source → Bool
is_value k (Is text) = is_some (value_of k text)
is_value k (DomainOf name) = true

defaults_are_values : list_all (λ r. is_value r.kind r.default_value) catalogue ≡ true
unfolding catalogue words_of net_of written_net host_of address_of ipv4_bits ipv6_bits read_ipv4 read_ipv6 read_number read_octet read_segment read_segments
defaults_are_values = refl

-- numbers: at their bounds and past them, with leading zeros, and with bytes that are no digits
header_sizes : map (value_of (kind.Number 100 10000000))
    (codes "99" ∷ codes "100" ∷ codes "0100" ∷ codes "10000000" ∷ codes "10000001" ∷ codes "99999999999999999999" ∷ codes "007" ∷ [])
    ≡ None ∷ Some (Number 100) ∷ Some (Number 100) ∷ Some (Number 10000000) ∷ None ∷ None ∷ None ∷ []
header_sizes = refl

only_digits : map (number_within 0 9) (codes "0" ∷ codes "007" ∷ [] ∷ codes "1a" ∷ codes "-1" ∷ codes "+1" ∷ codes " 1" ∷ [])
    ≡ Some 0 ∷ Some 7 ∷ None ∷ None ∷ None ∷ None ∷ None ∷ []
only_digits = refl

reply_codes : map (value_of kind.Code) (codes "399" ∷ codes "400" ∷ codes "599" ∷ codes "600" ∷ [])
    ≡ None ∷ Some (Number 400) ∷ Some (Number 599) ∷ None ∷ []
reply_codes = refl

-- yes and no in any case; yes alone, as it is written
yes_or_no : map (value_of kind.Yes) (codes "yes" ∷ codes "YES" ∷ codes "No" ∷ codes "maybe" ∷ codes "y" ∷ [] ∷ [])
    ≡ Some (Yes true) ∷ Some (Yes true) ∷ Some (Yes false) ∷ None ∷ None ∷ None ∷ []
yes_or_no = refl

only_yes : map (value_of kind.FixedYes) (codes "yes" ∷ codes "Yes" ∷ codes "no" ∷ [] ∷ []) ≡ Some Text ∷ None ∷ None ∷ None ∷ []
only_yes = refl

-- texts: any; of myorigin any but a file's name
any_text : map (λ k. value_of k (codes "/a {")) (kind.Text ∷ kind.Unset ∷ kind.Origin ∷ []) ≡ Some Text ∷ Some Text ∷ None ∷ []
any_text = refl

origins : map (value_of kind.Origin) (codes "example.com" ∷ codes "a/b" ∷ [] ∷ codes "/etc/mailname" ∷ codes "/" ∷ [])
    ≡ Some Text ∷ Some Text ∷ Some Text ∷ None ∷ None ∷ []
origins = refl

-- lists: of tables, with no file and with a partner of each brace
table_lists : map (value_of kind.Maps) (codes "hash:a, inline:{b = c}" ∷ [] ∷ codes "/file" ∷ codes "hash:a /file" ∷ codes "hash:a, {" ∷ [])
    ≡ Some (Items (codes "hash:a" ∷ codes "inline:{b = c}" ∷ [])) ∷ Some (Items []) ∷ None ∷ None ∷ None ∷ []
unfolding words_of
table_lists = refl

abbrev kinds_of_any_items : List Kind
kinds_of_any_items = kind.Domains ∷ kind.Restrictions ∷ kind.Names ∷ []

any_items : map (λ k. map (value_of k) (codes "/f, a" ∷ codes "a {b" ∷ [])) kinds_of_any_items
    ≡ map (λ k. Some (Items (codes "/f" ∷ codes "a" ∷ [])) ∷ None ∷ []) kinds_of_any_items
unfolding words_of
any_items = refl

-- networks: tables, files, addresses and nets, each after an exclamation mark too; an IPv6 address without brackets looks like a table
abbrev network_items : List (List ℕ)
network_items =
    codes "10.0.0.0/8" ∷ codes "!10.1.2.3" ∷ codes "[::1]/128" ∷ codes "![::1]" ∷ codes "a:b" ∷ codes "!a:b" ∷ codes "/f" ∷ codes "!/f" ∷ codes "::1" ∷ []

abbrev no_network_items : List (List ℕ)
no_network_items =
    codes "10.0.0.1/8" ∷ codes "10.0.0.0/33" ∷ codes "[10.0.0.0]/8" ∷ codes "[::1/128]" ∷ codes "[::1]/64" ∷ codes "10.0.0" ∷ codes "!!10.0.0.0/8" ∷ codes "!" ∷ []

-- names of hosts, which are no networks
abbrev host_items : List (List ℕ)
host_items = codes "a.test" ∷ codes ".test" ∷ codes "!a.test" ∷ codes "!.test" ∷ codes "1.2" ∷ []

abbrev no_host_items : List (List ℕ)
no_host_items = codes "." ∷ codes "..test" ∷ codes "a..test" ∷ codes "!" ∷ codes "!!a" ∷ codes "[::1/128]" ∷ codes "[a]" ∷ codes "10.0.0.1/8" ∷ []

networks : map (λ item. are_networks (item ∷ [])) (network_items ++ no_network_items ++ codes "a.test" ∷ codes ".test" ∷ [])
    ≡ replicate 9 true ++ replicate 10 false
unfolding net_of written_net host_of address_of ipv4_bits ipv6_bits read_ipv4 read_ipv6 read_number read_octet read_segment read_segments
networks = refl

hosts : map (λ item. are_hosts (item ∷ [])) (network_items ++ host_items ++ no_host_items) ≡ replicate 14 true ++ replicate 8 false
unfolding net_of written_net host_of address_of ipv4_bits ipv6_bits read_ipv4 read_ipv6 read_number read_octet read_segment read_segments
hosts = refl

-- interfaces: all, or the loopback, alone and as written, or addresses without brackets
interfaces : map are_interfaces
    ((codes "all" ∷ []) ∷ (codes "loopback-only" ∷ []) ∷ (codes "10.1.2.3" ∷ codes "::1" ∷ []) ∷ (codes "::1" ∷ []) ∷ [] ∷ (codes "All" ∷ [])
    ∷ (codes "all" ∷ codes "all" ∷ []) ∷ (codes "10.1.2.3" ∷ codes "all" ∷ []) ∷ (codes "[::1]" ∷ []) ∷ (codes "10.0.0.0/8" ∷ []) ∷ (codes "mx.test" ∷ []) ∷ [])
    ≡ replicate 5 true ++ replicate 6 false
unfolding address_of ipv4_bits ipv6_bits read_ipv4 read_ipv6 read_number read_octet read_segment read_segments
interfaces = refl

-- one item of these kinds is asked for by its kind
items_by_their_kind : map (λ k. map (value_of k) (codes "10.0.0.0/8" ∷ codes "a.test" ∷ codes "all" ∷ [])) (kind.Networks ∷ kind.Hosts ∷ kind.Interfaces ∷ [])
    ≡ (Some (Items (codes "10.0.0.0/8" ∷ [])) ∷ None ∷ None ∷ [])
    ∷ (Some (Items (codes "10.0.0.0/8" ∷ [])) ∷ Some (Items (codes "a.test" ∷ [])) ∷ Some (Items (codes "all" ∷ [])) ∷ [])
    ∷ (None ∷ None ∷ Some (Items (codes "all" ∷ [])) ∷ []) ∷ []
unfolding words_of net_of written_net host_of address_of ipv4_bits ipv6_bits read_ipv4 read_ipv6 read_number read_octet read_segment read_segments
items_by_their_kind = refl

address_kinds : map (value_of kind.AddressKinds)
    (codes "header_sender, envelope_recipient" ∷ codes "envelope_sender header_recipient" ∷ codes "header_sender, body" ∷ codes "Header_Sender" ∷ [])
    ≡ Some (Items (codes "header_sender" ∷ codes "envelope_recipient" ∷ []))
    ∷ Some (Items (codes "envelope_sender" ∷ codes "header_recipient" ∷ [])) ∷ None ∷ None ∷ []
unfolding words_of
address_kinds = refl

extension_ways : map (value_of kind.Extensions)
    (codes "canonical, alias" ∷ codes "virtual forward include generic" ∷ codes "canon" ∷ codes "canonical, canon" ∷ [])
    ≡ Some (Items (codes "canonical" ∷ codes "alias" ∷ []))
    ∷ Some (Items (codes "virtual" ∷ codes "forward" ∷ codes "include" ∷ codes "generic" ∷ [])) ∷ None ∷ None ∷ []
unfolding words_of
extension_ways = refl

rewrite_clients : map (value_of kind.RewriteClients)
    (codes "permit_inet_interfaces" ∷ codes "Permit_MyNetworks, check_address_map inline:{a=b}" ∷ codes "check_address_map"
    ∷ codes "check_address_map /f" ∷ codes "permit_mynetworks permit_none" ∷ codes "hash:a" ∷ [])
    ≡ Some (Items (codes "permit_inet_interfaces" ∷ []))
    ∷ Some (Items (codes "Permit_MyNetworks" ∷ codes "check_address_map" ∷ codes "inline:{a=b}" ∷ [])) ∷ None ∷ None ∷ None ∷ None ∷ []
unfolding words_of
rewrite_clients = refl

-- what is after a word that wants a table is that table, whatever it is
clients_in_turn : map (are_rewrite_clients false)
    ([] ∷ (codes "check_address_map" ∷ codes "check_address_map" ∷ []) ∷ (codes "check_address_map" ∷ codes "check_address_map" ∷ codes "a:b" ∷ [])
    ∷ (codes "CHECK_ADDRESS_MAP" ∷ codes "a:b" ∷ codes "permit_sasl_authenticated" ∷ []) ∷ []) ≡ true ∷ true ∷ false ∷ true ∷ []
clients_in_turn = refl

-- arguments of words
restriction_arguments : map (argument_of kind.Restrictions)
    (codes "check_recipient_access" ∷ codes "Check_Reverse_Client_Hostname_Access" ∷ codes "reject_rbl_client" ∷ codes "CHECK_policy_service"
    ∷ codes "permit_mynetworks" ∷ codes "check_address_map" ∷ [])
    ≡ argument.Table ∷ argument.Table ∷ argument.Text ∷ argument.Text ∷ argument.Nothing ∷ argument.Nothing ∷ []
restriction_arguments = refl

-- tables in items: without one exclamation mark they begin with a slash, or have a colon and do not begin with a bracket
tables_in_items : map table_in
    (codes "example.com" ∷ codes "texthash:t" ∷ codes "!cidr:n" ∷ codes "/file" ∷ codes "!/file" ∷ codes "!!/file"
    ∷ codes "[::1]/128" ∷ codes "![::1]" ∷ codes "2001:db8::1" ∷ codes "10.0.0.0/8" ∷ codes "!" ∷ [] ∷ [])
    ≡ None ∷ Some (codes "texthash:t") ∷ Some (codes "cidr:n") ∷ Some (codes "/file") ∷ Some (codes "/file") ∷ None
    ∷ None ∷ None ∷ Some (codes "2001:db8::1") ∷ None ∷ None ∷ None ∷ []
tables_in_items = refl

-- tables of lists: after words in any case, and not past the end
tables_of_restrictions : map (tables_of kind.Restrictions)
    ((codes "check_client_access" ∷ codes "a:b" ∷ codes "permit" ∷ codes "check_policy_service" ∷ codes "check_helo_access" ∷ codes "REJECT"
    ∷ codes "Check_Sender_Access" ∷ codes "c:d" ∷ []) ∷ (codes "a:b" ∷ codes "check_sender_access" ∷ codes "c:d" ∷ codes "check_helo_access" ∷ []) ∷ [])
    ≡ (codes "a:b" ∷ codes "c:d" ∷ []) ∷ (codes "c:d" ∷ []) ∷ []
tables_of_restrictions = refl

tables_by_kind : map (λ k. tables_of k (codes "!/f" ∷ codes "b" ∷ codes "check_address_map" ∷ codes "c:d" ∷ []))
    (kind.Maps ∷ kind.Domains ∷ kind.Networks ∷ kind.Hosts ∷ kind.RewriteClients ∷ kind.Restrictions ∷ kind.Names ∷ [])
    ≡ (codes "!/f" ∷ codes "b" ∷ codes "check_address_map" ∷ codes "c:d" ∷ []) ∷ (codes "/f" ∷ codes "c:d" ∷ []) ∷ (codes "/f" ∷ codes "c:d" ∷ [])
    ∷ (codes "/f" ∷ codes "c:d" ∷ []) ∷ (codes "c:d" ∷ []) ∷ [] ∷ [] ∷ []
tables_by_kind = refl

-- table texts: the first line of each stays
abbrev texts_at : List TableText → TableTexts
texts_at texts = record { file = codes "main.cf"; texts = texts }

first_line_stays : with_texts 7 (texts_at (record { line = 3; text = codes "a:b" } ∷ [])) (codes "c:d" ∷ codes "a:b" ∷ codes "c:d" ∷ codes "a:B" ∷ [])
    ≡ texts_at (record { line = 3; text = codes "a:b" } ∷ record { line = 7; text = codes "c:d" } ∷ record { line = 7; text = codes "a:B" } ∷ [])
first_line_stays = refl
