-- Worked examples of the definitions, each by computation.
use Rattle.std.proofs.Common.{◌≡◌, true, false, [], ◌∷◌, refl, codes}
use Rattle.pf_eval.specs.Judge.{end_from, end_of, is_destination, is_in_mynetworks, item_verdict, or_on, permit_mynetworks, reject_unauth_destination}
use Rattle.pf_cidr.specs.Nets.{Network}
use Rattle.pf_cidr.specs.declared.address.Addr.{Addr}
use Rattle.pf_cidr.specs.declared.address.Addr.TheVariants.{V4, V6}
use Rattle.pf_eval.specs.declared.judge.Verdict.TheVariants.{Denies, GoesOn, Permits}
use Rattle.pf_eval.specs.declared.policy.PlainEnd.TheVariants.{Accept, Deny}
use Rattle.pf_eval.specs.declared.policy.PlainItem.TheVariants.{PermitMynetworks, RejectUnauthDestination}
use Rattle.pf_eval.specs.declared.policy.PlainPolicy.{PlainPolicy}

-- the net 10.0.0.0/8, the client 10.1.2.3 in it, and the client 192.0.2.9, which is a stranger
abbrev ten : Network
ten = record { addr = V4 167772160; prefix = 8 }

abbrev own : Addr
own = V4 167838211

abbrev stranger : Addr
stranger = V4 3221225993

-- a site with two names and three nets, the others 192.0.2.8/32 and 2001:db8::/32
abbrev site : PlainPolicy
site = record {
  destinations = codes "example.com" ∷ codes "Mail.example.org" ∷ [];
  networks = ten ∷ record { addr = V4 3221225992; prefix = 32 } ∷ record { addr = V6 0x20010db8000000000000000000000000; prefix = 32 } ∷ [];
  relay = PermitMynetworks ∷ RejectUnauthDestination ∷ [];
}

-- a site with no name, no net and no restriction
abbrev bare : PlainPolicy
bare = record { destinations = []; networks = []; relay = [] }

-- clients
client_of_the_first_net : is_in_mynetworks site own ≡ true
client_of_the_first_net = refl

client_of_the_second_net : is_in_mynetworks site (V4 3221225992) ≡ true
client_of_the_second_net = refl

client_of_the_net_of_the_other_family : is_in_mynetworks site (V6 0x20010db8000000000000000000000001) ≡ true
client_of_the_net_of_the_other_family = refl

mapped_address_is_no_other_one : is_in_mynetworks site (V6 0xffff0a010203) ≡ false
mapped_address_is_no_other_one = refl

client_of_no_net : is_in_mynetworks site stranger ≡ false
client_of_no_net = refl

no_net_has_no_client : is_in_mynetworks bare own ≡ false
no_net_has_no_client = refl

-- domains
name_in_capitals : is_destination site (codes "EXAMPLE.COM") ≡ true
name_in_capitals = refl

second_name : is_destination site (codes "mail.example.org") ≡ true
second_name = refl

name_above : is_destination site (codes "example.org") ≡ false
name_above = refl

name_below : is_destination site (codes "a.example.com") ≡ false
name_below = refl

no_name_is_a_destination : is_destination bare (codes "example.com") ≡ false
no_name_is_a_destination = refl

-- restrictions
own_client_is_permitted : permit_mynetworks site own ≡ Permits
own_client_is_permitted = refl

stranger_is_left_to_the_next : permit_mynetworks site stranger ≡ GoesOn
stranger_is_left_to_the_next = refl

other_domain_is_denied : reject_unauth_destination site (codes "other.test") ≡ Denies
other_domain_is_denied = refl

own_domain_is_left_to_the_next : reject_unauth_destination site (codes "Example.com") ≡ GoesOn
own_domain_is_left_to_the_next = refl

-- items
permit_looks_at_the_client : item_verdict site own (codes "other.test") PermitMynetworks ≡ Permits
permit_looks_at_the_client = refl

permit_looks_at_no_domain : item_verdict site stranger (codes "example.com") PermitMynetworks ≡ GoesOn
permit_looks_at_no_domain = refl

reject_looks_at_the_domain : item_verdict site stranger (codes "example.com") RejectUnauthDestination ≡ GoesOn
reject_looks_at_the_domain = refl

reject_looks_at_no_client : item_verdict site own (codes "other.test") RejectUnauthDestination ≡ Denies
reject_looks_at_no_client = refl

-- an item and the rest of its list
permit_ends_the_list : or_on Permits 1 (Deny 2) ≡ Accept
permit_ends_the_list = refl

denial_ends_the_list : or_on Denies 1 Accept ≡ Deny 1
denial_ends_the_list = refl

rest_counts : or_on GoesOn 1 (Deny 2) ≡ Deny 2
rest_counts = refl

-- lists from a place on
nothing_left_accepts : end_from site stranger (codes "other.test") 3 [] ≡ Accept
nothing_left_accepts = refl

places_go_on_from_the_first : end_from site stranger (codes "other.test") 7 (PermitMynetworks ∷ PermitMynetworks ∷ RejectUnauthDestination ∷ [])
    ≡ Deny 9
places_go_on_from_the_first = refl

permit_before_a_denial : end_from site own (codes "other.test") 1 (PermitMynetworks ∷ RejectUnauthDestination ∷ []) ≡ Accept
permit_before_a_denial = refl

denial_before_a_permit : end_from site own (codes "other.test") 1 (RejectUnauthDestination ∷ PermitMynetworks ∷ []) ≡ Deny 1
denial_before_a_permit = refl

-- the relay list
own_client_to_any_domain : end_of site own (codes "other.test") ≡ Accept
unfolding end_of
own_client_to_any_domain = refl

stranger_to_own_domain : end_of site stranger (codes "example.com") ≡ Accept
unfolding end_of
stranger_to_own_domain = refl

stranger_to_another_domain : end_of site stranger (codes "other.test") ≡ Deny 2
unfolding end_of
stranger_to_another_domain = refl

empty_relay_list : end_of bare stranger (codes "other.test") ≡ Accept
unfolding end_of
empty_relay_list = refl
