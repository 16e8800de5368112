-- The values of parameters (postconf(5)): what a text says, or None where it is none of the values of its kind.
use Rattle.std.specs.Prelude.{ℕ, ◌≤◌, Bool, true, false, List, [], Option, None, Some, Result, Ok, Err, codes, if◌then◌else◌}
use Rattle.std.specs.List.{list_all}
use Rattle.std.specs.Option.{option_map}
use Rattle.std.specs.Str.{bytes_eq}
use Rattle.pf_base.specs.Text.Names.{same_in_any_case}
use Rattle.pf_base.specs.Text.Words.{words_of}
use Rattle.pf_base.specs.declared.text.words.WordsFault.{WordsFault}
use Rattle.pf_catalogue.specs.Clients.{are_rewrite_clients}
use Rattle.pf_catalogue.specs.Hosts.{are_hosts, are_interfaces, are_networks}
use Rattle.pf_catalogue.specs.Lists.{has_no_file, is_address_kind, is_extension_way, is_file}
use Rattle.pf_catalogue.specs.Numbers.{number_within}
use Rattle.pf_catalogue.specs.declared.kind.Kind.{Kind}
use Rattle.pf_catalogue.specs.declared.kind.Kind.TheVariants as kind
use Rattle.pf_catalogue.specs.declared.value.Value.{Value}
use Rattle.pf_catalogue.specs.declared.value.Value.TheVariants.{Text, Number, Yes, Items}

-- the number, the answer, and the list that a value is, if it is one
abbrev pub number_in : Value → Option ℕ
number_in (Number n) = Some n
number_in other = None

abbrev pub answer_in : Value → Option Bool
answer_in (Yes b) = Some b
answer_in other = None

abbrev pub list_in : Value → Option (List (List ℕ))
list_in (Items items) = Some items
list_in other = None

-- the items of a list; none of another value
abbrev pub items_in : Value → List (List ℕ)
items_in Text = []
items_in (Number n) = []
items_in (Yes b) = []
items_in (Items items) = items

-- a domain's name, and no file's
abbrev pub origin : List ℕ → Option Value
origin text = if is_file text then None else Some Text

abbrev pub number : ℕ → ℕ → List ℕ → Option Value
number least most text = option_map Number (number_within least most text)

-- yes or no, in any case
abbrev pub yes_or_no : List ℕ → Option Value
yes_or_no text =
    if same_in_any_case text (codes "yes") then Some (Yes true) else if same_in_any_case text (codes "no") then Some (Yes false) else None

-- yes, and nothing else
abbrev pub fixed_yes : List ℕ → Option Value
fixed_yes text = if bytes_eq text (codes "yes") then Some Text else None

-- items that may be in a list of a kind; a kind that is no list has none
abbrev pub are_items : Kind → List (List ℕ) → Bool
are_items kind.Text items = false
are_items kind.Origin items = false
are_items (kind.Number least most) items = false
are_items kind.Code items = false
are_items kind.Yes items = false
are_items kind.Maps items = has_no_file items
are_items kind.Domains items = true
are_items kind.Networks items = are_networks items
are_items kind.Hosts items = are_hosts items
are_items kind.Restrictions items = true
are_items kind.AddressKinds items = list_all is_address_kind items
are_items kind.Extensions items = list_all is_extension_way items
are_items kind.Interfaces items = are_interfaces items
are_items kind.RewriteClients items = are_rewrite_clients false items
are_items kind.Names items = true
are_items kind.FixedYes items = false
are_items kind.Unset items = false

-- the items of a list, if each brace has its partner
abbrev pub list_of : Kind → Result (List (List ℕ)) WordsFault → Option Value
list_of k (Ok items) = if are_items k items then Some (Items items) else None
list_of k (Err fault) = None

abbrev pub list : Kind → List ℕ → Option Value
list k text = list_of k (words_of text)

-- the codes of replies that refuse (RFC 5321, 4.2.1)
abbrev pub least_code : ℕ
least_code = 400

abbrev pub greatest_code : ℕ
greatest_code = 599

-- a number that a kind has
abbrev pub IsNumberOf : Kind → ℕ → Type 0
IsNumberOf kind.Text n = ⊥
IsNumberOf kind.Origin n = ⊥
IsNumberOf (kind.Number least most) n = (least ≤ n) × (n ≤ most)
IsNumberOf kind.Code n = (least_code ≤ n) × (n ≤ greatest_code)
IsNumberOf kind.Yes n = ⊥
IsNumberOf kind.Maps n = ⊥
IsNumberOf kind.Domains n = ⊥
IsNumberOf kind.Networks n = ⊥
IsNumberOf kind.Hosts n = ⊥
IsNumberOf kind.Restrictions n = ⊥
IsNumberOf kind.AddressKinds n = ⊥
IsNumberOf kind.Extensions n = ⊥
IsNumberOf kind.Interfaces n = ⊥
IsNumberOf kind.RewriteClients n = ⊥
IsNumberOf kind.Names n = ⊥
IsNumberOf kind.FixedYes n = ⊥
IsNumberOf kind.Unset n = ⊥

-- what a text says
abbrev pub value_of : Kind → List ℕ → Option Value
value_of kind.Text text = Some Text
value_of kind.Origin text = origin text
value_of (kind.Number least most) text = number least most text
value_of kind.Code text = number least_code greatest_code text
value_of kind.Yes text = yes_or_no text
value_of kind.Maps text = list kind.Maps text
value_of kind.Domains text = list kind.Domains text
value_of kind.Networks text = list kind.Networks text
value_of kind.Hosts text = list kind.Hosts text
value_of kind.Restrictions text = list kind.Restrictions text
value_of kind.AddressKinds text = list kind.AddressKinds text
value_of kind.Extensions text = list kind.Extensions text
value_of kind.Interfaces text = list kind.Interfaces text
value_of kind.RewriteClients text = list kind.RewriteClients text
value_of kind.Names text = list kind.Names text
value_of kind.FixedYes text = fixed_yes text
value_of kind.Unset text = Some Text
