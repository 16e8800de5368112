-- Worked examples of the definitions, each by computation.
use Rattle.std.proofs.Common.{◌≡◌, ◌∷◌, ℕ, zero, suc, Bool, true, false, List, [], Option, None, Some, Result, Ok, Err, refl, codes, if◌then◌else◌}
use Rattle.std.specs.Prelude.{map}
use Rattle.std.specs.Str.{bytes_eq}
use Rattle.pf_addr.specs.declared.address.Address.{Address}
use Rattle.pf_asks.specs.Heard.{nothing as nothing_heard}
use Rattle.pf_asks.specs.Looking.{Meaning, Values}
use Rattle.pf_asks.specs.Questions as questions
use Rattle.pf_asks.specs.Questions.{Ask, Means, done, look}
use Rattle.pf_asks.specs.declared.lookup.Found.{Found}
use Rattle.pf_asks.specs.declared.lookup.Found.TheVariants.{Value, Absent}
use Rattle.pf_asks.specs.declared.lookup.Results.TheVariants.{Anything}
use Rattle.pf_base.specs.declared.table_texts.TableText.{TableText}
use Rattle.pf_cidr.specs.declared.address.Addr.TheVariants.{V4, V6}
use Rattle.pf_class.specs.Classes.{alias_class, class_of, in_networks, mailbox_class, relay_class}
use Rattle.pf_class.specs.Items.{domain_items}
use Rattle.pf_class.specs.Local.{is_local, literal_address, literal_inside}
use Rattle.pf_class.specs.Members.{first_value, is_member, item_says, looked, pattern_says}
use Rattle.pf_class.specs.Resolved.{at_at, holds_operator, resolved, resolved_within, split}
use Rattle.pf_class.specs.Site.{interfaces}
use Rattle.pf_class.specs.Standard.{address_of, at_bang, at_percent, full_domain, is_short, parted, standard, standard_with, with_domain, with_mydomain, without_closing_dot}
use Rattle.pf_class.specs.Subjects.{parents}
use Rattle.pf_class.specs.declared.class.Class.TheVariants.{Default, Local, Relay}
use Rattle.pf_class.specs.declared.domains.Domains.{Domains}
use Rattle.pf_class.specs.declared.fault.ClassFault.{ClassFault}
use Rattle.pf_class.specs.declared.fault.ClassFault.TheVariants.{LookupFailed}
use Rattle.pf_class.specs.declared.item.Item.{Item}
use Rattle.pf_class.specs.declared.item.Pattern.{Pattern}
use Rattle.pf_class.specs.declared.item.Pattern.TheVariants.{Names, Net, Table, File}
use Rattle.pf_class.specs.declared.resolved.Resolved.{Resolved}
use Rattle.pf_class.specs.declared.rules.Rules.{Rules}

-- a site with all rules, and one with none
abbrev all : Rules
all = record {
  swap_bangpath = true;
  allow_percent_hack = true;
  append_at_myorigin = true;
  append_dot_mydomain = true;
  myorigin = codes "origin.test";
  mydomain = codes "my.test";
}

abbrev nothing : Rules
nothing = record all { swap_bangpath = false; allow_percent_hack = false; append_at_myorigin = false; append_dot_mydomain = false }

abbrev addresses : List Address
addresses =
    address_of (codes "joe") []
    ∷ address_of (codes "site!joe") []
    ∷ address_of (codes "joe%b.test") []
    ∷ address_of (codes "b.test!joe%c") []
    ∷ address_of (codes "joe%") []
    ∷ address_of (codes "!joe") []
    ∷ address_of (codes "a%b%c.test") []
    ∷ address_of (codes "a!b!joe") []
    ∷ address_of (codes "site!joe") (codes "example.com")
    ∷ address_of (codes "joe") (codes "host")
    ∷ address_of (codes "joe") (codes "host.")
    ∷ address_of (codes "joe") (codes "example.com..")
    ∷ address_of (codes "joe") (codes "[192.0.2.1]")
    ∷ address_of (codes "joe") (codes ".")
    ∷ address_of (codes "joe%[host") []
    ∷ address_of (codes "joe%[host]") []
    ∷ []

abbrev forms : List Address
forms =
    address_of (codes "joe") (codes "origin.test")
    ∷ address_of (codes "joe") (codes "site.my.test")
    ∷ address_of (codes "joe") (codes "b.test")
    ∷ address_of (codes "joe%c") (codes "b.test")
    ∷ address_of (codes "joe%") (codes "origin.test")
    ∷ address_of (codes "!joe") (codes "origin.test")
    ∷ address_of (codes "a%b") (codes "c.test")
    ∷ address_of (codes "b!joe") (codes "a.my.test")
    ∷ address_of (codes "site!joe") (codes "example.com")
    ∷ address_of (codes "joe") (codes "host.my.test")
    ∷ address_of (codes "joe") (codes "host")
    ∷ address_of (codes "joe") (codes "example.com.")
    ∷ address_of (codes "joe") (codes "[192.0.2.1]")
    ∷ address_of (codes "joe") []
    ∷ address_of (codes "joe") (codes "[host.my.test")
    ∷ address_of (codes "joe") (codes "[host]")
    ∷ []

standard_forms : map (standard all) addresses ≡ forms
unfolding standard standard_with with_domain parted at_bang at_percent full_domain with_mydomain without_closing_dot is_short
standard_forms = refl

-- without the rules a closing dot is dropped all the same
without_rules : map (standard nothing) (address_of (codes "site!joe%b") [] ∷ address_of (codes "joe") (codes "host.") ∷ [])
    ≡ address_of (codes "site!joe%b") [] ∷ address_of (codes "joe") (codes "host") ∷ []
unfolding standard standard_with with_domain parted at_bang at_percent full_domain with_mydomain without_closing_dot is_short
without_rules = refl

-- the names of another domain
with_other_names : standard_with all (codes "invalid") (codes "invalid") (address_of (codes "joe") []) ≡ address_of (codes "joe") (codes "invalid.invalid")
unfolding standard_with with_domain parted at_bang at_percent full_domain with_mydomain without_closing_dot is_short
with_other_names = refl

-- tables: one with a value for a domain, a list file with a member and one that is none, and one that fails
abbrev value_for : List ℕ → List ℕ → List ℕ → Option Found
value_for known value key = if bytes_eq known key then Some (Value value) else Some Absent

abbrev listed : List ℕ → Option Found
listed key = if bytes_eq (codes "@in.test") key then Some (Value (codes "yes")) else value_for (codes "@out.test") (codes "no") key

abbrev meaning : (List ℕ → Option Found) → Meaning
meaning value = record { value = value; partial_keys = true; results = Anything }

abbrev values : Values
values zero = meaning (value_for (codes "table.test") (codes "x"))
values (suc zero) = meaning listed
values (suc (suc n)) = meaning (λ key. None)

abbrev means : Means
means = record { values = values; rows = [] }

abbrev item : Bool → Pattern → Item
item excludes pattern = record { pattern = pattern; excludes = excludes }

abbrev table : ℕ → Pattern
table id = Table (record { 0 = id })

abbrev file : ℕ → Pattern
file id = File (record { 0 = id })

abbrev destinations : List Item
destinations =
    item true (Names (codes "not.test" ∷ []))
    ∷ item false (Names (codes "example.com" ∷ codes "own.test" ∷ codes "not.test" ∷ []))
    ∷ item false (table 0)
    ∷ item false (file 1)
    ∷ []

abbrev site : Domains
site = record {
  rules = all;
  own = V4 3221225985 ∷ V6 1 ∷ [];
  mydestination = destinations;
  virtual_alias_domains = item false (table 2) ∷ [];
  virtual_mailbox_domains = [];
  relay_domains = item false (Names (codes ".below.test" ∷ codes "relay.test" ∷ [])) ∷ [];
  mynetworks = item true (Net (record { addr = V4 167772161; prefix = 32 })) ∷ item false (Net (record { addr = V4 167772160; prefix = 8 })) ∷ [];
}

-- what is answered where each lookup is answered as meant
abbrev answer : {A : Type 0} → Ask A → A
answer p = (p means nothing_heard).answer

-- the first item that matches decides
local_domains : map (λ domain. answer (is_local site domain))
    (codes "Example.COM" ∷ codes "not.test" ∷ codes "other.test" ∷ codes "Table.Test" ∷ codes "in.test" ∷ codes "out.test" ∷ codes "[192.0.2.1]x" ∷ [])
    ≡ (Ok true ∷ Ok false ∷ Ok false ∷ Ok true ∷ Ok true ∷ Ok false ∷ Ok false ∷ [])
unfolding is_local is_member item_says pattern_says first_value looked look done questions.◌>>=◌ literal_address literal_inside
local_domains = refl

-- resolved forms
abbrev spelled : List Address
spelled =
    address_of (codes "joe") (codes "example.com")
    ∷ address_of (codes "joe%b.test") (codes "own.test")
    ∷ address_of (codes "joe@b.test@own.test") (codes "table.test")
    ∷ address_of (codes "joe%b.test") (codes "c.test")
    ∷ address_of (codes "joe%") (codes "example.com")
    ∷ []

abbrev becomes : List ℕ → List ℕ → Bool → Result Resolved ClassFault
becomes local domain routed = Ok (record { address = address_of local domain; routed = routed })

resolved_forms : map (λ address. answer (resolved site address)) spelled
    ≡ (becomes (codes "joe") (codes "example.com") false
    ∷ becomes (codes "joe") (codes "b.test") true
    ∷ becomes (codes "joe") (codes "b.test") true
    ∷ becomes (codes "joe%b.test") (codes "c.test") true
    ∷ becomes (codes "joe%") (codes "example.com") true
    ∷ [])
unfolding resolved resolved_within split at_at parted at_bang at_percent holds_operator standard standard_with with_domain full_domain with_mydomain without_closing_dot is_short is_local is_member item_says pattern_says first_value looked look done questions.◌>>=◌ literal_address literal_inside
resolved_forms = refl

-- a lookup that fails ends the question, and one that is not asked does not
classes : map (λ domain. answer (class_of site domain)) (codes "own.test" ∷ codes "other.test" ∷ []) ≡ (Ok Local ∷ Err LookupFailed ∷ [])
unfolding class_of alias_class mailbox_class relay_class is_local is_member item_says pattern_says first_value looked look done questions.◌>>=◌ literal_address literal_inside
classes = refl

-- in relay_domains a name has the domains below it, and one with a dot before it is itself alone
relayed : map (λ domain. answer (relay_class site domain)) (codes "x.Relay.test" ∷ codes "x..relay.test" ∷ codes ".below.test" ∷ codes "x..below.test" ∷ [])
    ≡ (Ok Relay ∷ Ok Relay ∷ Ok Relay ∷ Ok Default ∷ [])
unfolding relay_class is_member item_says pattern_says done questions.◌>>=◌
relayed = refl

-- the parents of a domain
parents_of : parents (codes "a.b.test.") ≡ (codes "b.test." ∷ codes "test." ∷ [])
parents_of = refl

-- `!` before a net
networks : map (λ address. answer (in_networks site address)) (V4 167772161 ∷ V4 167772162 ∷ V4 16909060 ∷ V6 1 ∷ []) ≡ (Ok false ∷ Ok true ∷ Ok false ∷ Ok false ∷ [])
unfolding in_networks is_member item_says pattern_says first_value looked look done questions.◌>>=◌
networks = refl

-- the items of lists: names, tables and list files by their places among the table texts, and what is none of them
abbrev texts : List TableText
texts = record { line = 1; text = codes "texthash:t" } ∷ record { line = 1; text = codes "/list" } ∷ []

domains_listed : domain_items texts (codes "A.test" ∷ codes "!b.test" ∷ codes "texthash:t" ∷ codes "!/list" ∷ codes "cdb:other" ∷ codes "[::1]" ∷ [])
    ≡ (item false (Names (codes "a.test" ∷ []))
    ∷ item true (Names (codes "b.test" ∷ []))
    ∷ item false (table 0)
    ∷ item true (file 1)
    ∷ item false (Names (codes "[::1]" ∷ []))
    ∷ [])
domains_listed = refl

-- the own interfaces
machine : map (interfaces (V4 1 ∷ [])) ((codes "all" ∷ []) ∷ (codes "loopback-only" ∷ []) ∷ [] ∷ []) ≡ ((V4 1 ∷ []) ∷ (V4 2130706433 ∷ V6 1 ∷ []) ∷ [] ∷ [])
machine = refl
