-- What a list of restrictions says of a client and a recipient's domain (SMTPD_ACCESS_README; postconf(5), smtpd_relay_restrictions).
use Rattle.std.specs.Prelude.{ℕ, ◌+◌, Bool, List, [], ◌∷◌, if◌then◌else◌}
use Rattle.std.specs.List.{list_any}
use Rattle.pf_base.specs.Text.Names.{same_in_any_case}
use Rattle.pf_cidr.specs.Nets.{net_has}
use Rattle.pf_cidr.specs.declared.address.Addr.{Addr}
use Rattle.pf_eval.specs.declared.policy.PlainPolicy.{PlainPolicy}
use Rattle.pf_eval.specs.declared.policy.PlainItem.{PlainItem}
use Rattle.pf_eval.specs.declared.policy.PlainItem.TheVariants.{PermitMynetworks, RejectUnauthDestination}
use Rattle.pf_eval.specs.declared.policy.PlainEnd.{PlainEnd}
use Rattle.pf_eval.specs.declared.policy.PlainEnd.TheVariants.{Accept, Deny}
use Rattle.pf_eval.specs.declared.judge.Verdict.{Verdict}
use Rattle.pf_eval.specs.declared.judge.Verdict.TheVariants.{Permits, Denies, GoesOn}

-- the client's address is in one of the networks (postconf(5), mynetworks)
abbrev pub is_in_mynetworks : PlainPolicy → Addr → Bool
is_in_mynetworks policy client = list_any (λ net. net_has net client) policy.networks

-- the domain is one of the names (postconf(5), mydestination)
abbrev pub is_destination : PlainPolicy → List ℕ → Bool
is_destination policy domain = list_any (λ name. same_in_any_case name domain) policy.destinations

-- permits where the client is in mynetworks (postconf(5), permit_mynetworks)
abbrev pub permit_mynetworks : PlainPolicy → Addr → Verdict
permit_mynetworks policy client = if is_in_mynetworks policy client then Permits else GoesOn

-- denies where the domain is no destination (postconf(5), reject_unauth_destination)
abbrev pub reject_unauth_destination : PlainPolicy → List ℕ → Verdict
reject_unauth_destination policy domain = if is_destination policy domain then GoesOn else Denies

-- what an item says
abbrev pub item_verdict : PlainPolicy → Addr → List ℕ → PlainItem → Verdict
item_verdict policy client domain PermitMynetworks = permit_mynetworks policy client
item_verdict policy client domain RejectUnauthDestination = reject_unauth_destination policy domain

-- a permit and a denial end the list, and the rest of it counts where the item goes on
abbrev pub or_on : Verdict → ℕ → PlainEnd → PlainEnd
or_on Permits place on = Accept
or_on Denies place on = Deny place
or_on GoesOn place on = on

-- how a list ends whose first item has this place; where no item is left, the recipient is accepted
abbrev pub end_from : PlainPolicy → Addr → List ℕ → ℕ → List PlainItem → PlainEnd
end_from policy client domain place [] = Accept
end_from policy client domain place (item ∷ items) =
    or_on (item_verdict policy client domain item) place (end_from policy client domain (place + 1) items)

-- how the relay list ends
unfoldable pub end_of : PlainPolicy → Addr → List ℕ → PlainEnd
end_of policy client domain = end_from policy client domain 1 policy.relay
