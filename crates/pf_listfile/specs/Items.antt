-- The items of list files and the keys that match them (postconf(5): mydestination, relay_domains, mynetworks; DATABASE_README). That
-- a list of domains puts an at sign before its key, that items are host names, and that an IPv6 address among them is in brackets, is
-- postgate's own.
use Rattle.std.specs.Prelude.{◌≡◌, ℕ, ◌==◌, ◌||◌, ◌&&◌, Bool, true, false, not, List, [], ◌∷◌, Ok, Option, None, Some, if◌then◌else◌}
use Rattle.std.specs.List.{list_any}
use Rattle.std.specs.Option.{option_map, option_or}
use Rattle.std.specs.Result.{result_ok}
use Rattle.std.specs.Str.{bytes_eq}
use Rattle.pf_base.specs.Text.Ascii as ascii
use Rattle.pf_base.specs.Text.Names.{folded, is_host_name}
use Rattle.pf_cidr.specs.Addresses.{address_of}
use Rattle.pf_cidr.specs.Nets.{Network, net_has, net_of}
use Rattle.pf_cidr.specs.declared.address.Addr.{Addr}
use Rattle.pf_listfile.specs.declared.item.Item.{Item}
use Rattle.pf_listfile.specs.declared.item.Pattern.{Pattern}
use Rattle.pf_listfile.specs.declared.item.Pattern.TheVariants.{Below, Name, Net}

-- a host name, in small letters
abbrev pub name_pattern : List ℕ → Option Pattern
name_pattern text = if is_host_name text then Some (Name (folded text)) else None

-- the name that the names of hosts are below
abbrev pub below_pattern : List ℕ → Option Pattern
below_pattern text = if is_host_name text then Some (Below (folded text)) else None

-- a host name, or a dot and one
abbrev pub host_pattern : List ℕ → Option Pattern
host_pattern [] = None
host_pattern (b ∷ text) = if b == ascii.dot then below_pattern text else name_pattern (b ∷ text)

abbrev pub begins_with_bracket : List ℕ → Bool
begins_with_bracket [] = false
begins_with_bracket (b ∷ text) = b == ascii.left_bracket

abbrev pub has_colon : List ℕ → Bool
has_colon text = list_any (λ b. b == ascii.colon) text

-- an IPv6 address that is not in brackets would read as the name of a table, which has a colon too
abbrev pub reads_as_table : List ℕ → Bool
reads_as_table text = has_colon text && not (begins_with_bracket text)

-- an address or a net
abbrev pub net_pattern : List ℕ → Option Pattern
net_pattern text = if reads_as_table text then None else option_map Net (result_ok (net_of text))

-- what an item is matched by that is after no exclamation mark. An IPv4 address is a host name too, and is taken as one: the names that
-- equal it are the keys that write it.
abbrev pub pattern_of : List ℕ → Option Pattern
pattern_of text = option_or (host_pattern text) (net_pattern text)

abbrev pub item_with : Bool → Option Pattern → Option Item
item_with excludes pattern = option_map (λ one. record { pattern = one; excludes = excludes }) pattern

-- an item, or one after an exclamation mark
abbrev pub item_of : List ℕ → Option Item
item_of [] = None
item_of (b ∷ word) = if b == ascii.exclamation_mark then item_with true (pattern_of word) else item_with false (pattern_of (b ∷ word))

-- a key that a list of domains asks is a domain: a host name or `.name` equals it
abbrev pub names_domain : Pattern → List ℕ → Bool
names_domain (Name name) domain = bytes_eq name domain
names_domain (Below name) domain = bytes_eq (ascii.dot ∷ name) domain
names_domain (Net net) domain = false

-- a name is below another one: it ends in a dot and that one, with something before them
abbrev pub is_below : List ℕ → List ℕ → Bool
is_below name [] = false
is_below name (b ∷ key) = bytes_eq (ascii.dot ∷ name) key || is_below name key

-- any other key is a name that equals a host name or is below `.name`
abbrev pub names_host : Pattern → List ℕ → Bool
names_host (Name name) host = bytes_eq name host
names_host (Below name) host = is_below name host
names_host (Net net) host = false

abbrev pub is_in_net : Network → Option Addr → Bool
is_in_net net None = false
is_in_net net (Some addr) = net_has net addr

-- or an address that is in a net
abbrev pub has_address : Pattern → Option Addr → Bool
has_address (Name name) addr = false
has_address (Below name) addr = false
has_address (Net net) addr = is_in_net net addr

abbrev pub matches_plain : Pattern → List ℕ → Bool
matches_plain pattern key = names_host pattern (folded key) || has_address pattern (address_of key)

-- a pattern has the addresses of the net that a text writes
abbrev pub HasNetOf : List ℕ → Pattern → Type 0
HasNetOf text pattern = (net : Network) (key : List ℕ) → net_of text ≡ Ok net → is_in_net net (address_of key) ≡ true → matches_plain pattern key ≡ true

-- a key matches an item
abbrev pub matches : List ℕ → Item → Bool
matches [] item = matches_plain item.pattern []
matches (b ∷ key) item =
    if b == ascii.at_sign then names_domain item.pattern (folded key) else matches_plain item.pattern (b ∷ key)
