-- The parameters of main.cf (postconf(5)): their names in byte order, what their values are, and what is there by default. Which parameters
-- are in it is postgate's profile, and so are the bounds of numbers.
use Rattle.std.specs.Prelude.{ℕ, List, [], ◌∷◌, Option, get_or, codes}
use Rattle.std.specs.List.{position}
use Rattle.std.specs.Str.{bytes_eq}
use Rattle.pf_base.specs.Meanings.{Source}
use Rattle.pf_base.specs.declared.meaning.Meaning.TheVariants.{Is, DomainOf}
use Rattle.pf_catalogue.specs.declared.kind.Kind.{Kind}
use Rattle.pf_catalogue.specs.declared.kind.Kind.TheVariants.{Text, Origin, Number, Code, Yes, Maps, Domains, Networks, Hosts, Restrictions, AddressKinds, Extensions, Interfaces, RewriteClients, Names, FixedYes, Unset}

-- a parameter
pub record Row : Type 0 where
  pub name : List ℕ
  pub kind : Kind
  pub default_value : Source

abbrev pub row : List ℕ → Kind → Source → Row
row name kind default_value = record { name = name; kind = kind; default_value = default_value }

unfoldable pub catalogue : List Row
catalogue =
    row (codes "access_map_defer_code") Code (Is (codes "450"))
    ∷ row (codes "access_map_reject_code") Code (Is (codes "554"))
    ∷ row (codes "alias_maps") Maps (Is [])
    ∷ row (codes "allow_percent_hack") Yes (Is (codes "yes"))
    ∷ row (codes "append_at_myorigin") Yes (Is (codes "yes"))
    ∷ row (codes "append_dot_mydomain") Yes (Is (codes "no"))
    ∷ row (codes "body_checks") Maps (Is [])
    ∷ row (codes "canonical_classes") AddressKinds (Is (codes "envelope_sender, envelope_recipient, header_sender, header_recipient"))
    ∷ row (codes "canonical_maps") Maps (Is [])
    ∷ row (codes "defer_code") Code (Is (codes "450"))
    ∷ row (codes "header_checks") Maps (Is [])
    ∷ row (codes "header_size_limit") (Number 100 10000000) (Is (codes "102400"))
    ∷ row (codes "inet_interfaces") Interfaces (Is (codes "all"))
    ∷ row (codes "invalid_hostname_reject_code") Code (Is (codes "501"))
    ∷ row (codes "line_length_limit") (Number 100 1000000) (Is (codes "2048"))
    ∷ row (codes "local_header_rewrite_clients") RewriteClients (Is (codes "permit_inet_interfaces"))
    ∷ row (codes "local_recipient_maps") Maps (Is (codes "$alias_maps"))
    ∷ row (codes "mail_name") Text (Is (codes "Postfix"))
    ∷ row (codes "maps_rbl_reject_code") Code (Is (codes "554"))
    ∷ row (codes "masquerade_classes") AddressKinds (Is (codes "envelope_sender, header_sender, header_recipient"))
    ∷ row (codes "masquerade_domains") Names (Is [])
    ∷ row (codes "masquerade_exceptions") Names (Is [])
    ∷ row (codes "message_size_limit") (Number 0 2147483647) (Is (codes "10240000"))
    ∷ row (codes "multi_recipient_bounce_reject_code") Code (Is (codes "550"))
    ∷ row (codes "mydestination") Domains (Is (codes "$myhostname, localhost.$mydomain, localhost"))
    ∷ row (codes "mydomain") Text (DomainOf (codes "myhostname"))
    ∷ row (codes "myhostname") Text (Is (codes "localhost.localdomain"))
    ∷ row (codes "mynetworks") Networks (Is (codes "127.0.0.0/8 [::1]/128"))
    ∷ row (codes "myorigin") Origin (Is (codes "$myhostname"))
    ∷ row (codes "non_fqdn_reject_code") Code (Is (codes "504"))
    ∷ row (codes "parent_domain_matches_subdomains") Unset (Is [])
    ∷ row (codes "propagate_unmatched_extensions") Extensions (Is (codes "canonical, virtual"))
    ∷ row (codes "recipient_canonical_classes") AddressKinds (Is (codes "envelope_recipient, header_recipient"))
    ∷ row (codes "recipient_canonical_maps") Maps (Is [])
    ∷ row (codes "recipient_delimiter") Text (Is [])
    ∷ row (codes "reject_code") Code (Is (codes "554"))
    ∷ row (codes "relay_domains") Domains (Is [])
    ∷ row (codes "relay_domains_reject_code") Code (Is (codes "554"))
    ∷ row (codes "relay_recipient_maps") Maps (Is [])
    ∷ row (codes "remote_header_rewrite_domain") Text (Is [])
    ∷ row (codes "resolve_dequoted_address") FixedYes (Is (codes "yes"))
    ∷ row (codes "sender_canonical_classes") AddressKinds (Is (codes "envelope_sender, header_sender"))
    ∷ row (codes "sender_canonical_maps") Maps (Is [])
    ∷ row (codes "smtpd_authorized_xclient_hosts") Hosts (Is [])
    ∷ row (codes "smtpd_banner") Text (Is (codes "$myhostname ESMTP $mail_name"))
    ∷ row (codes "smtpd_client_restrictions") Restrictions (Is [])
    ∷ row (codes "smtpd_data_restrictions") Restrictions (Is [])
    ∷ row (codes "smtpd_delay_reject") FixedYes (Is (codes "yes"))
    ∷ row (codes "smtpd_end_of_data_restrictions") Restrictions (Is [])
    ∷ row (codes "smtpd_hard_error_limit") (Number 1 2147483647) (Is (codes "20"))
    ∷ row (codes "smtpd_helo_required") Yes (Is (codes "no"))
    ∷ row (codes "smtpd_helo_restrictions") Restrictions (Is [])
    ∷ row (codes "smtpd_null_access_lookup_key") Text (Is (codes "<>"))
    ∷ row (codes "smtpd_policy_service_default_action") Text (Is (codes "451 4.3.5 Server configuration problem"))
    ∷ row (codes "smtpd_policy_service_try_limit") (Number 1 100) (Is (codes "2"))
    ∷ row (codes "smtpd_recipient_limit") (Number 1 2147483647) (Is (codes "1000"))
    ∷ row (codes "smtpd_recipient_restrictions") Restrictions (Is [])
    ∷ row (codes "smtpd_reject_unlisted_recipient") Yes (Is (codes "yes"))
    ∷ row (codes "smtpd_relay_before_recipient_restrictions") FixedYes (Is (codes "yes"))
    ∷ row (codes "smtpd_relay_restrictions") Restrictions (Is (codes "permit_mynetworks, permit_sasl_authenticated, defer_unauth_destination"))
    ∷ row (codes "smtpd_restriction_classes") Names (Is [])
    ∷ row (codes "smtpd_sender_restrictions") Restrictions (Is [])
    ∷ row (codes "swap_bangpath") Yes (Is (codes "yes"))
    ∷ row (codes "unknown_address_reject_code") Code (Is (codes "450"))
    ∷ row (codes "unknown_client_reject_code") Code (Is (codes "450"))
    ∷ row (codes "unknown_hostname_reject_code") Code (Is (codes "450"))
    ∷ row (codes "unknown_local_recipient_reject_code") Code (Is (codes "550"))
    ∷ row (codes "unknown_relay_recipient_reject_code") Code (Is (codes "550"))
    ∷ row (codes "unknown_virtual_alias_reject_code") Code (Is (codes "550"))
    ∷ row (codes "unknown_virtual_mailbox_reject_code") Code (Is (codes "550"))
    ∷ row (codes "virtual_alias_address_length_limit") (Number 1 1000000) (Is (codes "1000"))
    ∷ row (codes "virtual_alias_domains") Domains (Is (codes "$virtual_alias_maps"))
    ∷ row (codes "virtual_alias_expansion_limit") (Number 1 1000000) (Is (codes "1000"))
    ∷ row (codes "virtual_alias_maps") Maps (Is (codes "$virtual_maps"))
    ∷ row (codes "virtual_alias_recursion_limit") (Number 1 1000000) (Is (codes "1000"))
    ∷ row (codes "virtual_mailbox_domains") Domains (Is (codes "$virtual_mailbox_maps"))
    ∷ row (codes "virtual_mailbox_maps") Maps (Is [])
    ∷ []

-- the place of the parameter of a name, counted from 0
abbrev pub place_of : List ℕ → Option ℕ
place_of name = position (λ r. bytes_eq r.name name) catalogue

-- the parameter at a place
abbrev pub row_at : ℕ → Row
row_at place = get_or catalogue place (row [] Text (Is []))
