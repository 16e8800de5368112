-- Worked examples of the definitions, each by computation.
use Rattle.std.proofs.Common.{◌≡◌, ℕ, ◌++◌, true, false, List, [], ◌∷◌, map, Option, None, Some, Result, Ok, Err, option_map, refl, codes}
use Rattle.std.specs.Fmt.{digits}
use Rattle.std.specs.Net.Addr.{ipv4_bits, ipv6_bits}
use Rattle.std.specs.Net.Reader.{read_ipv4, read_ipv6, read_number, read_octet, read_segment, read_segments}
use Rattle.pf_base.specs.Text.Lines.{lines}
use Rattle.pf_base.specs.Text.Printing.{printed_line}
use Rattle.pf_base.specs.Refusal.{cause_text, refusal_line}
use Rattle.pf_base.specs.Text.Words.{words_of}
use Rattle.pf_base.specs.declared.refused.Cause.TheVariants.{C2, C5, C10, C14}
use Rattle.pf_base.specs.declared.refused.Refused.{Refused}
use Rattle.pf_base.specs.declared.outside.texts.SinkFault.TheVariants as sink
use Rattle.pf_base.specs.declared.outside.texts.Texts.{Texts}
use Rattle.pf_catalogue.specs.Catalogue.{catalogue}
use Rattle.pf_addr.specs.Grammar.{is_at_domain, is_literal_byte, is_lone_byte, is_name_byte, is_plain_byte, is_route}
use Rattle.pf_addr.specs.Printed.{is_atom_byte, printed as printed_address, printed_domain, printed_local}
use Rattle.pf_addr.specs.Spelled.{bare, between, bracketed, dot_string, first_path, is_domain, local_part, mailbox, mailbox_with_domain, path, path_of, quoted_string}
use Rattle.pf_addr.specs.Spelled.{routed_mailbox}
use Rattle.pf_addr.specs.declared.address.Path.TheVariants.{To}
use Rattle.pf_catalogue.specs.declared.value.Value.TheVariants.{Text, Items}
use Rattle.pf_cidr.specs.Addresses.{address_of}
use Rattle.pf_cidr.specs.Nets.{Network, host_of as net_host, net_of, written_net}
use Rattle.pf_cidr.specs.declared.address.Addr.{Addr}
use Rattle.pf_cidr.specs.declared.address.Addr.TheVariants.{V4, V6}
use Rattle.pf_eval.specs.Judge.{end_of}
use Rattle.pf_eval.specs.declared.policy.PlainItem.TheVariants.{PermitMynetworks, RejectUnauthDestination}
use Rattle.pf_expand.specs.Expansion.{parts, text_value}
use Rattle.pf_expand.specs.Forms.{first_part, form_of}
use Rattle.pf_expand.specs.Names.{name_value}
use Rattle.pf_maincf.specs.Settings.{Conf, conf_of}
use Rattle.pf_params.specs.Parameters.{reading_of}
use Rattle.pf_params.specs.declared.readings.Reading.{Reading}
use Rattle.pf_smtp.specs.Command.{after_keyword, verb_of, whole_path}
use Rattle.pf_smtp.specs.Session.{steps}
use Rattle.pf_smtp.specs.Step.{command, relay_end, step}
use Rattle.pf_smtp.specs.Text.{accepted_text, denial_text, denied_text, greeting_of, helo_text, log_line, mail_text, quit_text, rcpt_text, recipient_text, relay_denied_text, text_of}
use Rattle.pf_top.specs.Opening.{opening_of, reading_named, setup_of}
use Rattle.pf_top.specs.Profile.{cause_from, is_within, parameter_refusal}
use Rattle.pf_top.specs.Refusals.{file_opened, relay_refusal, settings_refusal}
use Rattle.pf_top.specs.Run.{usage_line}
use Rattle.pf_top.specs.Smtpd.{course_status, statuses_by, loop_status}
use Rattle.pf_top.specs.Smtpd.{Course as course}
use Rattle.pf_top.specs.SessionLoop.{speech_of}
use Rattle.pf_top.specs.Values.{closed_list, host_of, hosts_of, is_closing, network_of, nets_of, one_or_more, relay_of, restriction_of}
use Rattle.pf_top.specs.declared.opening.Opening.{Opening}
use Rattle.pf_top.specs.declared.session_loop.Ended.TheVariants as ended
use Rattle.pf_top.specs.declared.session_loop.LoopFault.TheVariants as fault

-- what the examples share: a site, its settings and its text
abbrev ten : Network
ten = record { addr = V4 167772160; prefix = 8 }

abbrev site : Opening
site = record {
  host = codes "mx.example.com";
  banner = codes "mx.example.com ESMTP Postfix";
  policy = record { destinations = codes "example.com" ∷ []; networks = ten ∷ []; relay = PermitMynetworks ∷ RejectUnauthDestination ∷ [] };
}

abbrev text : List ℕ
text = codes "myhostname = mx.example.com\nmydestination = example.com\nmynetworks = 10.0.0.0/8\n"
    ++ codes "smtpd_relay_restrictions = permit_mynetworks, reject_unauth_destination\n"

-- nets: addresses and nets of both families, but no tables, nothing after an exclamation mark, and no net with bits after its prefix
nets_of_items : map network_of (codes "10.0.0.0/8" ∷ codes "192.0.2.9" ∷ codes "[::ffff:127.0.0.0]/104" ∷ codes "[::1]" ∷ [])
    ≡ Some ten ∷ Some (record { addr = V4 3221225993; prefix = 32 }) ∷ Some (record { addr = V6 0xffff7f000000; prefix = 104 })
    ∷ Some (record { addr = V6 1; prefix = 128 }) ∷ []
unfolding network_of net_of written_net net_host address_of ipv4_bits ipv6_bits read_ipv4 read_ipv6 read_number read_octet read_segment read_segments
nets_of_items = refl

no_nets : map network_of (codes "10.0.0.1/8" ∷ codes "::1" ∷ codes "!10.0.0.0/8" ∷ codes "/nets" ∷ codes "a:b" ∷ codes "!a:b" ∷ codes "a.test" ∷ [])
    ≡ None ∷ None ∷ None ∷ None ∷ None ∷ None ∷ None ∷ []
unfolding network_of net_of written_net net_host address_of ipv4_bits ipv6_bits read_ipv4 read_ipv6 read_number read_octet read_segment read_segments
no_nets = refl

one_is_enough : map one_or_more ((ten ∷ []) ∷ [] ∷ []) ≡ Some (ten ∷ []) ∷ None ∷ []
one_is_enough = refl

-- values
host_or_not : map host_of (codes "mx.example.com" ∷ codes "mx.example.com." ∷ codes "a b" ∷ [])
    ≡ Some (codes "mx.example.com") ∷ None ∷ None ∷ []
unfolding host_of
host_or_not = refl

two_hosts : hosts_of (codes "Example.com" ∷ codes "b" ∷ []) ≡ Some (codes "Example.com" ∷ codes "b" ∷ [])
unfolding hosts_of host_of
two_hosts = refl

no_hosts : map hosts_of ([] ∷ (codes "example.com" ∷ codes "!b" ∷ []) ∷ (codes "{ a }" ∷ []) ∷ []) ≡ None ∷ None ∷ None ∷ []
unfolding hosts_of host_of
no_hosts = refl

nets_in_order : nets_of (codes "10.0.0.0/8" ∷ codes "[::1]/128" ∷ []) ≡ Some (ten ∷ record { addr = V6 1; prefix = 128 } ∷ [])
unfolding nets_of network_of net_of written_net net_host address_of ipv4_bits ipv6_bits read_ipv4 read_ipv6 read_number read_octet read_segment read_segments
nets_in_order = refl

no_list_of_nets : map nets_of ([] ∷ (codes "10.0.0.0/8" ∷ codes "!10.1.0.0/16" ∷ []) ∷ []) ≡ None ∷ None ∷ []
unfolding nets_of network_of net_of written_net net_host address_of ipv4_bits ipv6_bits read_ipv4 read_ipv6 read_number read_octet read_segment read_segments
no_list_of_nets = refl

words_in_any_case : map restriction_of (codes "Permit_MyNetworks" ∷ codes "REJECT_UNAUTH_DESTINATION" ∷ codes "permit" ∷ [])
    ≡ Some PermitMynetworks ∷ Some RejectUnauthDestination ∷ None ∷ []
unfolding restriction_of
words_in_any_case = refl

closing_ones : map is_closing (PermitMynetworks ∷ RejectUnauthDestination ∷ []) ≡ false ∷ true ∷ []
closing_ones = refl

closed_or_open : map closed_list ((RejectUnauthDestination ∷ []) ∷ (PermitMynetworks ∷ []) ∷ []) ≡ Some (RejectUnauthDestination ∷ []) ∷ None ∷ []
closed_or_open = refl

relay_lists : map relay_of ((codes "Reject_Unauth_Destination" ∷ []) ∷ (codes "permit_mynetworks" ∷ []) ∷ (codes "reject_unauth_destination" ∷ codes "permit" ∷ []) ∷ [] ∷ [])
    ≡ Some (RejectUnauthDestination ∷ []) ∷ None ∷ None ∷ None ∷ []
unfolding relay_of restriction_of
relay_lists = refl

-- what is within what is built, by the name of a parameter, set and not set
abbrev a_text : List ℕ → Reading
a_text value = record { line = 1; raw = value; text = value; value = Text }

abbrev a_list : List (List ℕ) → Reading
a_list items = record { line = 1; raw = []; text = []; value = Items items }

hosts_within : map (λ items. is_within (codes "mydestination") false (a_list items)) ((codes "a.b" ∷ []) ∷ (codes "a..b" ∷ []) ∷ [] ∷ []) ≡ true ∷ false ∷ false ∷ []
unfolding hosts_of host_of
hosts_within = refl

host_within : map (λ value. is_within (codes "myhostname") false (a_text value)) (codes "localhost.localdomain" ∷ codes "a b" ∷ [] ∷ []) ≡ true ∷ false ∷ false ∷ []
host_within = refl

nets_within : map (λ items. is_within (codes "mynetworks") false (a_list items)) ((codes "10.0.0.0/8" ∷ []) ∷ (codes "/nets" ∷ []) ∷ [] ∷ []) ≡ true ∷ false ∷ false ∷ []
unfolding nets_of network_of net_of written_net net_host address_of ipv4_bits ipv6_bits read_ipv4 read_ipv6 read_number read_octet read_segment read_segments
nets_within = refl

relay_within : map (λ set. is_within (codes "smtpd_relay_restrictions") set (a_list (codes "permit" ∷ []))) (true ∷ false ∷ []) ≡ true ∷ false ∷ []
relay_within = refl

texts_within : map (λ name. is_within name true (a_text (codes "a b"))) (codes "mail_name" ∷ codes "mydomain" ∷ codes "smtpd_banner" ∷ codes "myorigin" ∷ codes "Mydomain" ∷ [])
    ≡ true ∷ true ∷ true ∷ false ∷ false ∷ []
texts_within = refl

others_unset : is_within (codes "myorigin") false (a_text (codes "$myhostname")) ≡ true
others_unset = refl

causes : cause_from (codes "myorigin") true (Ok (a_text [])) ∷ cause_from (codes "myorigin") true (Err C5) ∷ cause_from (codes "mail_name") true (Ok (a_text [])) ∷ []
    ≡ Some C14 ∷ Some C5 ∷ None ∷ []
causes = refl

-- what a main.cf says
accepted_main_cf : map (file_opened (codes "main.cf")) (Some text ∷ None ∷ [])
    ≡ Ok site ∷ Err (record { file = codes "main.cf"; line = 0; cause = C10; name = codes "main.cf" }) ∷ []
unfolding conf_of settings_refusal parameter_refusal opening_of reading_named reading_of words_of catalogue name_value text_value parts first_part form_of host_of hosts_of nets_of network_of net_of written_net net_host address_of ipv4_bits ipv6_bits read_ipv4 read_ipv6 read_number read_octet read_segment read_segments relay_of
    restriction_of
accepted_main_cf = refl

values_of_names : file_opened (codes "main.cf") (Some (codes "n = 10.0.0.0/8\nmynetworks = $n\nr = unauth\nsmtpd_relay_restrictions = reject_${r}_destination\n"
    ++ codes "mail_name = M\nmyhostname = a.b\nsmtpd_banner = $myhostname $mail_name\n"))
    ≡ Ok (record {
      host = codes "a.b";
      banner = codes "a.b M";
      policy = record { destinations = codes "a.b" ∷ codes "localhost.b" ∷ codes "localhost" ∷ []; networks = ten ∷ []; relay = RejectUnauthDestination ∷ [] };
    })
unfolding conf_of settings_refusal parameter_refusal opening_of reading_named reading_of words_of catalogue name_value text_value parts first_part form_of host_of hosts_of nets_of network_of net_of written_net net_host address_of ipv4_bits ipv6_bits read_ipv4 read_ipv6 read_number read_octet read_segment read_segments relay_of
    restriction_of
values_of_names = refl

with_its_client : setup_of site (V4 167838211) ≡ record { host = site.host; banner = site.banner; policy = site.policy; client = V4 167838211 }
with_its_client = refl

abbrev opened : Result Opening Refused → Option Opening
opened (Ok opening) = Some opening
opened other = None

-- the lines of refused texts
abbrev line_of : Result Opening Refused → Option (List ℕ)
line_of (Err first) = Some (refusal_line first)
line_of other = None

abbrev said : List ℕ → Option (List ℕ)
said content = line_of (file_opened (codes "main.cf") (Some content))

lines_are_first : map said (codes "# c\n a = b\nc\n" ∷ (text ++ codes "a\n b\nrelay_domains = c\n") ∷ (text ++ codes "my\u{7f} = a\nb\n") ∷ (text ++ codes "= a\n") ∷ [])
    ≡ Some (codes "postgate: main.cf:2: C1 continuation of nothing\n") ∷ Some (codes "postgate: main.cf:5: C2 no equals sign\n")
    ∷ Some (codes "postgate: main.cf:5: C3 bad name\n") ∷ Some (codes "postgate: main.cf:5: C3 bad name\n") ∷ []
unfolding conf_of refusal_line printed_line cause_text digits
lines_are_first = refl

-- refusals of settings: none, a parameter that is not built, one that must be set, one without its form, of several the least name, and mydomain, which takes
-- its value by default from a myhostname that has none
parameters_in_order : map said (text ∷ (text ++ codes "relay_domains = a\n") ∷ codes "mynetworks = [::1]\n" ∷ (text ++ codes "mydestination = a..b\n")
    ∷ (text ++ codes "myhostname =\nappend_dot_mydomain = 1\n") ∷ (text ++ codes "relay_domains = a\nmyorigin = $\n") ∷ (text ++ codes "myhostname = $\n") ∷ [])
    ≡ None ∷ Some (codes "postgate: main.cf:5: C14 setting outside the profile: relay_domains\n")
    ∷ Some (codes "postgate: main.cf:0: C14 setting outside the profile: smtpd_relay_restrictions\n") ∷ Some (codes "postgate: main.cf:5: C14 setting outside the profile: mydestination\n")
    ∷ Some (codes "postgate: main.cf:6: C6 bad value: append_dot_mydomain\n") ∷ Some (codes "postgate: main.cf:6: C5 bad dollar form: myorigin\n")
    ∷ Some (codes "postgate: main.cf:0: C5 bad dollar form: mydomain\n") ∷ []
unfolding conf_of settings_refusal parameter_refusal reading_named reading_of words_of catalogue name_value text_value parts first_part form_of host_of hosts_of nets_of network_of
    net_of written_net net_host address_of ipv4_bits ipv6_bits read_ipv4 read_ipv6 read_number read_octet read_segment read_segments relay_of restriction_of refusal_line printed_line cause_text digits
parameters_in_order = refl

-- a class is looked at among the parameters
class_among_parameters : map said ((text ++ codes "smtpd_restriction_classes = a\na = {\n") ∷ (text ++ codes "smtpd_restriction_classes = z\nz = {\n") ∷ [])
    ≡ Some (codes "postgate: main.cf:6: C6 bad value: a\n") ∷ Some (codes "postgate: main.cf:5: C14 setting outside the profile: smtpd_restriction_classes\n") ∷ []
unfolding conf_of settings_refusal parameter_refusal reading_named reading_of words_of catalogue name_value text_value parts first_part form_of host_of hosts_of nets_of network_of
    net_of written_net net_host address_of ipv4_bits ipv6_bits read_ipv4 read_ipv6 read_number read_octet read_segment read_segments relay_of restriction_of refusal_line printed_line cause_text digits
class_among_parameters = refl

-- the relay list comes last, its words before what it lacks
abbrev no_assignment : Conf
no_assignment = record { file = codes "main.cf"; settings = [] }

checks_of_the_relay_list : map (λ items. option_map refusal_line (relay_refusal no_assignment items))
    ((codes "reject_unauth_destination" ∷ []) ∷ (codes "permit_mynetworks" ∷ codes "a\u{7f}" ∷ codes "b" ∷ []) ∷ (codes "permit_mynetworks" ∷ []) ∷ [])
    ≡ None ∷ Some (codes "postgate: main.cf:0: C7 unknown restriction: a?\n") ∷ Some (codes "postgate: main.cf:0: C14 setting outside the profile: smtpd_relay_restrictions\n") ∷ []
unfolding relay_of restriction_of refusal_line printed_line cause_text digits
checks_of_the_relay_list = refl

relay_list_is_last : map said ((text ++ codes "smtpd_relay_restrictions = permit\nz = $(\n") ∷ (text ++ codes "virtual_alias_maps = a:b\nsmtpd_relay_restrictions = permit\n") ∷ [])
    ≡ Some (codes "postgate: main.cf:5: C7 unknown restriction: permit\n") ∷ Some (codes "postgate: main.cf:5: C14 setting outside the profile: virtual_alias_maps\n") ∷ []
unfolding conf_of settings_refusal parameter_refusal reading_named reading_of words_of catalogue name_value text_value parts first_part form_of host_of hosts_of nets_of network_of
    net_of written_net net_host address_of ipv4_bits ipv6_bits read_ipv4 read_ipv6 read_number read_octet read_segment read_segments relay_of restriction_of refusal_line printed_line cause_text digits
relay_list_is_last = refl

-- mynetworks by default
default_networks : option_map (λ (opening : Opening). opening.policy.networks) (opened (file_opened (codes "main.cf") (Some (codes "smtpd_relay_restrictions = reject_unauth_destination\n"))))
    ≡ Some (record { addr = V4 2130706432; prefix = 8 } ∷ record { addr = V6 1; prefix = 128 } ∷ [])
unfolding conf_of settings_refusal parameter_refusal opening_of reading_named reading_of words_of catalogue name_value text_value parts first_part form_of host_of hosts_of nets_of network_of net_of written_net net_host address_of ipv4_bits ipv6_bits read_ipv4 read_ipv6 read_number read_octet read_segment read_segments relay_of
    restriction_of
default_networks = refl

-- talks
abbrev spoken : Addr → List ℕ → Texts
spoken client taken = (speech_of (setup_of site client)).said taken

greeting_alone : spoken (V4 167838211) [] ≡ record { out = codes "220 mx.example.com ESMTP Postfix\r\n"; mail = []; log = [] }
unfolding greeting_of steps lines
greeting_alone = refl

abbrev served : List ℕ
served = codes "HELO c.test\r\nMAIL FROM:<a@b.test>\r\nRCPT TO:<joe@other.test>\r\nQUIT\r\nQUIT\r\n"

sender_served : whole_path (codes "<a@b.test>") ≡ Some (To (record { local = codes "a"; domain = codes "b.test" }))
unfolding whole_path path_of first_path path bare bracketed routed_mailbox mailbox mailbox_with_domain is_domain local_part dot_string quoted_string between is_at_domain is_literal_byte is_lone_byte is_name_byte is_plain_byte is_route
sender_served = refl

recipient_served : whole_path (codes "<joe@other.test>") ≡ Some (To (record { local = codes "joe"; domain = codes "other.test" }))
unfolding whole_path path_of first_path path bare bracketed routed_mailbox mailbox mailbox_with_domain is_domain local_part dot_string quoted_string between is_at_domain is_literal_byte is_lone_byte is_name_byte is_plain_byte is_route
recipient_served = refl

texts_for_an_own_client : spoken (V4 167838211) served ≡ record {
  out = codes "220 mx.example.com ESMTP Postfix\r\n250 mx.example.com\r\n250 2.1.0 Ok\r\n250 2.1.5 Ok\r\n221 2.0.0 Bye\r\n";
  mail = [];
  log = codes "3 RCPT <joe@other.test> accept\n";
}
unfolding greeting_of steps step command verb_of after_keyword relay_end end_of text_of helo_text mail_text rcpt_text quit_text log_line printed_line accepted_text recipient_text printed_address printed_local printed_domain is_atom_byte digits lines
texts_for_an_own_client = rw (sender_served, recipient_served)

texts_for_a_stranger : spoken (V4 3221225993) served ≡ record {
  out = codes "220 mx.example.com ESMTP Postfix\r\n250 mx.example.com\r\n250 2.1.0 Ok\r\n"
      ++ codes "554 5.7.1 <joe@other.test>: Relay access denied\r\n221 2.0.0 Bye\r\n";
  mail = [];
  log = codes "3 RCPT <joe@other.test> deny smtpd_relay_restrictions[2] reject_unauth_destination -\n";
}
unfolding greeting_of steps step command verb_of after_keyword relay_end end_of text_of helo_text mail_text rcpt_text relay_denied_text quit_text log_line printed_line denied_text recipient_text denial_text printed_address printed_local printed_domain is_atom_byte digits lines
texts_for_a_stranger = rw (sender_served, recipient_served)

over_behind_quit : map (speech_of (setup_of site (V4 167838211))).over (codes "HELO c.test\r\nQUIT\r\nQUIT\r\n" ∷ codes "HELO c.test\r\nQUIT" ∷ [] ∷ [])
    ≡ true ∷ false ∷ false ∷ []
unfolding steps step command verb_of lines
over_behind_quit = refl

-- runs
usage_of_the_words : usage_line ≡ codes "usage: postgate smtpd|relaycheck|postconf|postmap|workload\n"
unfolding usage_line
usage_of_the_words = refl

statuses_of_sessions : map loop_status (Ok ended.AtEnd ∷ Ok ended.AtOver ∷ Ok ended.AtBudget ∷ Err fault.Input ∷ Err (fault.Sink sink.Out) ∷ Err (fault.Sink sink.NoMemory) ∷ [])
    ≡ 0 ∷ 0 ∷ 10 ∷ 4 ∷ 5 ∷ 9 ∷ []
statuses_of_sessions = refl

statuses_of_courses : map course_status (course.serves site (Ok ended.AtEnd) ∷ course.unread (Ok tt) ∷ course.unread (Err sink.Log) ∷ course.starves ∷ []) ≡ 0 ∷ 8 ∷ 7 ∷ 9 ∷ []
statuses_of_courses = refl

statuses_of_openings : map statuses_by (Ok site ∷ Err (record { file = codes "main.cf"; line = 2; cause = C2; name = [] }) ∷ []) ≡ (0 ∷ 10 ∷ 9 ∷ []) ∷ (3 ∷ 9 ∷ []) ∷ []
statuses_of_openings = refl
