-- What the settings of a main.cf say of the domains and networks of its site (ADDRESS_CLASS_README; postconf(5), inet_interfaces,
-- mydestination, virtual_alias_domains, virtual_mailbox_domains, relay_domains, mynetworks).
use Rattle.std.specs.Prelude.{ℕ, Bool, false, List, [], ◌∷◌, Option, codes, if◌then◌else◌}
use Rattle.std.specs.List.{filter_map}
use Rattle.std.specs.Option.{option_and_then, option_map_or, unwrap_or}
use Rattle.std.specs.Str.{bytes_eq}
use Rattle.pf_base.specs.declared.table_texts.TableText.{TableText}
use Rattle.pf_catalogue.specs.Catalogue.{place_of, row_at}
use Rattle.pf_catalogue.specs.Values.{answer_in, items_in}
use Rattle.pf_catalogue.specs.declared.value.Value.{Value}
use Rattle.pf_cidr.specs.Addresses.{address_of}
use Rattle.pf_cidr.specs.declared.address.Addr.{Addr}
use Rattle.pf_cidr.specs.declared.address.Addr.TheVariants.{V4, V6}
use Rattle.pf_maincf.specs.Settings.{Conf}
use Rattle.pf_params.specs.Accepted.{said_by, table_texts, text_of}
use Rattle.pf_class.specs.Items.{domain_items, network_items}
use Rattle.pf_class.specs.declared.domains.Domains.{Domains}
use Rattle.pf_class.specs.declared.item.Item.{Item}
use Rattle.pf_class.specs.declared.rules.Rules.{Rules}

-- the value of the parameter of a name, and what it says
unfoldable pub text_named : Conf → List ℕ → List ℕ
text_named settings name = option_map_or (λ place. text_of settings (row_at place)) (place_of name) []

unfoldable pub said_named : Conf → List ℕ → Option Value
said_named settings name = option_and_then (λ place. said_by settings (row_at place)) (place_of name)

-- whether it says yes, and the items of its list
abbrev pub yes_named : Conf → List ℕ → Bool
yes_named settings name = unwrap_or (option_and_then answer_in (said_named settings name)) false

abbrev pub items_named : Conf → List ℕ → List (List ℕ)
items_named settings name = option_map_or items_in (said_named settings name) []

-- by which rules addresses get their form
unfoldable pub rules_of : Conf → Rules
rules_of settings = record {
  swap_bangpath = yes_named settings (codes "swap_bangpath");
  allow_percent_hack = yes_named settings (codes "allow_percent_hack");
  append_at_myorigin = yes_named settings (codes "append_at_myorigin");
  append_dot_mydomain = yes_named settings (codes "append_dot_mydomain");
  myorigin = text_named settings (codes "myorigin");
  mydomain = text_named settings (codes "mydomain");
}

-- 127.0.0.1 and ::1
abbrev pub loopback : List Addr
loopback = V4 2130706433 ∷ V6 1 ∷ []

-- the addresses of the interfaces that mail is received on, of a machine with these: all of them, those of the loopback, or the listed ones
abbrev pub listed_or : List Addr → List ℕ → List Addr
listed_or own word =
    if bytes_eq word (codes "all") then own
    else (if bytes_eq word (codes "loopback-only") then loopback else filter_map address_of (word ∷ []))

abbrev pub interfaces : List Addr → List (List ℕ) → List Addr
interfaces own (word ∷ []) = listed_or own word
interfaces own words = filter_map address_of words

-- the items of the lists of settings, with the places of their table texts in the order in which tables are opened
abbrev pub texts_of : Conf → List TableText
texts_of settings = (table_texts settings).texts

abbrev pub domains_named : Conf → List ℕ → List Item
domains_named settings name = domain_items (texts_of settings) (items_named settings name)

abbrev pub networks_named : Conf → List ℕ → List Item
networks_named settings name = network_items (texts_of settings) (items_named settings name)

-- the domains and networks of a site with these own addresses
unfoldable pub domains_of : Conf → List Addr → Domains
domains_of settings own = record {
  rules = rules_of settings;
  own = interfaces own (items_named settings (codes "inet_interfaces"));
  mydestination = domains_named settings (codes "mydestination");
  virtual_alias_domains = domains_named settings (codes "virtual_alias_domains");
  virtual_mailbox_domains = domains_named settings (codes "virtual_mailbox_domains");
  relay_domains = domains_named settings (codes "relay_domains");
  mynetworks = networks_named settings (codes "mynetworks");
}
