-- The standard form of an address (ADDRESS_REWRITING_README, rewriting to standard form; postconf(5), swap_bangpath, allow_percent_hack,
-- append_at_myorigin, append_dot_mydomain).
use Rattle.std.specs.Prelude.{ℕ, ◌-◌, ◌==◌, ◌&&◌, Bool, not, nat_lt, List, ◌∷◌, ◌++◌, Option, Some, None, length, slice_index, take, unwrap_or, if◌then◌else◌}
use Rattle.std.specs.List.{after_first, after_last, before_first, before_last, list_any}
use Rattle.std.specs.Option.{option_or}
use Rattle.pf_base.specs.Text.Ascii as ascii
use Rattle.pf_base.specs.Text.Names.{same_in_any_case}
use Rattle.pf_addr.specs.declared.address.Address.{Address}
use Rattle.pf_cidr.specs.Nets.{is_in_brackets}
use Rattle.pf_class.specs.declared.rules.Rules.{Rules}

abbrev pub has_dot : List ℕ → Bool
has_dot domain = list_any (λ b. b == ascii.dot) domain

abbrev pub address_of : List ℕ → List ℕ → Address
address_of local domain = record { local = local; domain = domain }

-- a user at a site, where there are both
abbrev pub user_at : List ℕ → List ℕ → Option Address
user_at user site = if nat_lt 0 (length user) && nat_lt 0 (length site) then Some (address_of user site) else None

-- site!user, parted at the first ! (postconf(5), swap_bangpath)
unfoldable pub at_bang : List ℕ → Option Address
at_bang local = user_at (after_first (λ b. b == ascii.exclamation_mark) local) (before_first (λ b. b == ascii.exclamation_mark) local)

-- user%site, parted at the last % (postconf(5), allow_percent_hack)
unfoldable pub at_percent : List ℕ → Option Address
at_percent local = user_at (before_last (λ b. b == ascii.percent_sign) local) (after_last (λ b. b == ascii.percent_sign) local)

-- what a rule gives, where its switch is on
abbrev pub under : Bool → Option Address → Option Address
under switch parts = if switch then parts else None

-- the first of the two that parts a local part
unfoldable pub parted : Rules → List ℕ → Option Address
parted rules local = option_or (under rules.swap_bangpath (at_bang local)) (under rules.allow_percent_hack (at_percent local))

-- user@$myorigin (postconf(5), append_at_myorigin)
abbrev pub with_myorigin : Rules → List ℕ → Address → Address
with_myorigin rules myorigin address = if rules.append_at_myorigin then address_of address.local myorigin else address

-- an address without a domain gets one by the first rule that applies
unfoldable pub with_domain : Rules → List ℕ → Address → Address
with_domain rules myorigin address =
    if nat_lt 0 (length address.domain) then address else unwrap_or (parted rules address.local) (with_myorigin rules myorigin address)

-- a domain that is no literal in brackets and has no dot
unfoldable pub is_short : List ℕ → Bool
is_short domain = nat_lt 0 (length domain) && not (is_in_brackets domain) && not (has_dot domain)

-- domain.$mydomain (postconf(5), append_dot_mydomain)
unfoldable pub with_mydomain : Rules → List ℕ → List ℕ → List ℕ
with_mydomain rules mydomain domain = if rules.append_dot_mydomain && is_short domain then domain ++ ascii.dot ∷ mydomain else domain

-- one dot at the end is dropped
unfoldable pub without_closing_dot : List ℕ → List ℕ
without_closing_dot domain = if slice_index domain (length domain - 1) == ascii.dot then take (length domain - 1) domain else domain

-- a domain in full
unfoldable pub full_domain : Rules → List ℕ → List ℕ → List ℕ
full_domain rules mydomain domain = without_closing_dot (with_mydomain rules mydomain domain)

-- the standard form with these names in the place of $myorigin and $mydomain: there is a domain, and it is in full
unfoldable pub standard_with : Rules → List ℕ → List ℕ → Address → Address
standard_with rules myorigin mydomain address =
    address_of (with_domain rules myorigin address).local (full_domain rules mydomain (with_domain rules myorigin address).domain)

-- the standard form
unfoldable pub standard : Rules → Address → Address
standard rules address = standard_with rules rules.myorigin rules.mydomain address

-- a domain is that of $myorigin
abbrev pub is_origin : Rules → List ℕ → Bool
is_origin rules domain = same_in_any_case domain rules.myorigin
