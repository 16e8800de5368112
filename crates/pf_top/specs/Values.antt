-- What the values of a session's parameters say (postconf(5): myhostname, mydestination, mynetworks, smtpd_relay_restrictions).
use Rattle.std.specs.Prelude.{ℕ, Bool, true, false, nat_lt, List, Option, Some, None, length, codes, is_some, if◌then◌else◌}
use Rattle.std.specs.List.{list_any}
use Rattle.std.specs.Option.{option_and_then}
use Rattle.std.specs.Result.{result_ok}
use Rattle.pf_base.specs.Text.Names.{is_host_name, same_in_any_case}
use Rattle.pf_catalogue.specs.Lists.{table_in}
use Rattle.pf_cidr.specs.Nets.{Network, net_of}
use Rattle.pf_eval.specs.declared.policy.PlainItem.{PlainItem}
use Rattle.pf_eval.specs.declared.policy.PlainItem.TheVariants.{PermitMynetworks, RejectUnauthDestination}
use Rattle.pf_words.specs.Assignments.{all_of}

-- the items, where there is at least one
abbrev pub one_or_more : {A : Type 0} → List A → Option (List A)
one_or_more items = if nat_lt 0 (length items) then Some items else None

-- myhostname: a host name
unfoldable pub host_of : List ℕ → Option (List ℕ)
host_of value = if is_host_name value then Some value else None

-- mydestination: one or more host names
unfoldable pub hosts_of : List (List ℕ) → Option (List (List ℕ))
hosts_of items = option_and_then one_or_more (all_of host_of items)

-- a network: an address or a net, and no table; nothing after an exclamation mark is one
unfoldable pub network_of : List ℕ → Option Network
network_of item = if is_some (table_in item) then None else result_ok (net_of item)

-- mynetworks: one or more networks
unfoldable pub nets_of : List (List ℕ) → Option (List Network)
nets_of items = option_and_then one_or_more (all_of network_of items)

-- smtpd_relay_restrictions: restrictions, their words in any case
unfoldable pub restriction_of : List ℕ → Option PlainItem
restriction_of word =
    if same_in_any_case word (codes "permit_mynetworks") then Some PermitMynetworks
    else (if same_in_any_case word (codes "reject_unauth_destination") then Some RejectUnauthDestination
    else None)

-- a restriction closes the list where it denies strangers
abbrev pub is_closing : PlainItem → Bool
is_closing PermitMynetworks = false
is_closing RejectUnauthDestination = true

-- one of them closes the list to strangers
abbrev pub closed_list : List PlainItem → Option (List PlainItem)
closed_list items = if list_any is_closing items then Some items else None

-- smtpd_relay_restrictions: restrictions that close the list
unfoldable pub relay_of : List (List ℕ) → Option (List PlainItem)
relay_of items = option_and_then closed_list (all_of restriction_of items)
