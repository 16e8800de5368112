-- The items of lists of networks and of hosts, and the interfaces that mail is received on (postconf(5): mynetworks,
-- smtpd_authorized_xclient_hosts, inet_interfaces; DATABASE_README for tables).
use Rattle.std.specs.Prelude.{ℕ, ◌==◌, ◌||◌, Bool, false, List, [], ◌∷◌, codes, is_ok, is_some, if◌then◌else◌}
use Rattle.std.specs.List.{list_all}
use Rattle.std.specs.Str.{bytes_eq}
use Rattle.pf_base.specs.Text.Ascii as ascii
use Rattle.pf_base.specs.Text.Names.{is_host_name}
use Rattle.pf_cidr.specs.Addresses.{address_of}
use Rattle.pf_cidr.specs.Nets.{net_of}
use Rattle.pf_catalogue.specs.Lists.{is_table, without_not}

-- a host name, or a dot and the name that the names of hosts are below
abbrev pub names_hosts : List ℕ → Bool
names_hosts [] = false
names_hosts (b ∷ text) = if b == ascii.dot then is_host_name text else is_host_name (b ∷ text)

-- a table or file, an address, or a net
abbrev pub is_network : List ℕ → Bool
is_network text = is_table text || is_ok (net_of text)

-- one of these, or names of hosts
abbrev pub is_host : List ℕ → Bool
is_host text = is_network text || names_hosts text

-- each item is one of these, or one after an exclamation mark
abbrev pub are_networks : List (List ℕ) → Bool
are_networks items = list_all (λ item. is_network (without_not item)) items

abbrev pub are_hosts : List (List ℕ) → Bool
are_hosts items = list_all (λ item. is_host (without_not item)) items

-- all interfaces, or the loopback interfaces
abbrev pub names_interfaces : List ℕ → Bool
names_interfaces word = bytes_eq word (codes "all") || bytes_eq word (codes "loopback-only")

abbrev pub is_address : List ℕ → Bool
is_address text = is_some (address_of text)

abbrev pub are_addresses : List (List ℕ) → Bool
are_addresses items = list_all is_address items

-- interfaces: one of these words alone, or addresses
abbrev pub are_interfaces : List (List ℕ) → Bool
are_interfaces (word ∷ []) = names_interfaces word || is_address word
are_interfaces items = are_addresses items
