-- The words of lists that take an argument (postconf(5), smtpd_recipient_restrictions and local_header_rewrite_clients).
use Rattle.std.specs.Prelude.{ℕ, ◌||◌, Bool, List, codes, if◌then◌else◌}
use Rattle.pf_base.specs.Text.Names.{same_in_any_case}
use Rattle.pf_catalogue.specs.declared.arguments.Argument.{Argument}
use Rattle.pf_catalogue.specs.declared.arguments.Argument.TheVariants.{Nothing, Table, Text}
use Rattle.pf_catalogue.specs.declared.kind.Kind.{Kind}
use Rattle.pf_catalogue.specs.declared.kind.Kind.TheVariants.{Restrictions, RewriteClients}

-- a restriction that looks a key up in the table after it
abbrev pub is_access_check : List ℕ → Bool
is_access_check word =
    same_in_any_case word (codes "check_client_access") || same_in_any_case word (codes "check_reverse_client_hostname_access")
    || same_in_any_case word (codes "check_helo_access") || same_in_any_case word (codes "check_sender_access")
    || same_in_any_case word (codes "check_recipient_access")

-- a restriction that asks the service or the list of the DNS after it
abbrev pub asks_by_name : List ℕ → Bool
asks_by_name word =
    same_in_any_case word (codes "check_policy_service") || same_in_any_case word (codes "reject_rbl_client")
    || same_in_any_case word (codes "permit_dnswl_client") || same_in_any_case word (codes "reject_rhsbl_client")
    || same_in_any_case word (codes "reject_rhsbl_helo") || same_in_any_case word (codes "reject_rhsbl_sender")
    || same_in_any_case word (codes "reject_rhsbl_recipient")

abbrev pub restriction_argument : List ℕ → Argument
restriction_argument word = if is_access_check word then Table else if asks_by_name word then Text else Nothing

-- a test of a client's address in the table after it
abbrev pub client_argument : List ℕ → Argument
client_argument word = if same_in_any_case word (codes "check_address_map") then Table else Nothing

-- what a word of a list takes after it
abbrev pub argument_of : Kind → List ℕ → Argument
argument_of Restrictions word = restriction_argument word
argument_of RewriteClients word = client_argument word
argument_of kind word = Nothing
