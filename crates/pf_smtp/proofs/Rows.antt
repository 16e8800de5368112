-- Worked examples of the definitions, each by computation.
use Rattle.std.proofs.Common.{◌≡◌, ◌++◌, true, false, [], ◌∷◌, map, replicate, length, None, Some, refl, codes}
use Rattle.std.specs.Fmt.{digits}
use Rattle.pf_base.specs.Text.Lines.{lines, rest}
use Rattle.pf_base.specs.Text.Printing.{printed_line}
use Rattle.pf_addr.specs.Grammar.{is_at_domain, is_literal_byte, is_lone_byte, is_name_byte, is_plain_byte, is_route}
use Rattle.pf_addr.specs.Printed.{escaped, is_atom_byte, printed as printed_address, printed_domain, printed_local}
use Rattle.pf_addr.specs.Spelled.{bare, between, bracketed, dot_string, first_path, is_domain, local_part, mailbox, mailbox_with_domain, path, path_of, quoted_string}
use Rattle.pf_addr.specs.Spelled.{routed_mailbox}
use Rattle.pf_addr.specs.declared.address.Address.{Address}
use Rattle.pf_addr.specs.declared.address.Path.TheVariants.{Null, To}
use Rattle.pf_cidr.specs.declared.address.Addr.TheVariants.{V4}
use Rattle.pf_eval.specs.Judge.{end_of}
use Rattle.pf_eval.specs.declared.policy.PlainEnd.TheVariants.{Accept, Deny}
use Rattle.pf_eval.specs.declared.policy.PlainItem.TheVariants.{PermitMynetworks, RejectUnauthDestination}
use Rattle.pf_smtp.specs.Command.{after_keyword, argument_of, verb_named, verb_of, whole_path}
use Rattle.pf_smtp.specs.Clauses.Gathering.{line_given}
use Rattle.pf_smtp.specs.Clauses.Feeding.{fresh, given, going_of, partial_after}
use Rattle.pf_smtp.specs.Session.{before, log_text, records_text, replies_text, session, start, stays, steps}
use Rattle.pf_smtp.specs.Step.{command, helo, is_routed, judged, judged_domain, line_step, logs, mail, mail_from, mail_path, quit, rcpt, rcpt_path, rcpt_to, relay_end}
use Rattle.pf_smtp.specs.Step.{says, step}
use Rattle.pf_smtp.specs.Text.{accepted_text, crlf, denial_text, denied_text, greeting_of, helo_text, joined, line_text, log_line, mail_text, quit_text, rcpt_text}
use Rattle.pf_smtp.specs.Text.{recipient_text, relay_denied_text, reply_text, text_of}
use Rattle.pf_smtp.specs.declared.command.Verb.TheVariants as verb
use Rattle.pf_smtp.specs.declared.entry.Entry.TheVariants.{Accepted, Denied}
use Rattle.pf_smtp.specs.declared.reply.HeloReply.TheVariants.{NeedsName, Hello}
use Rattle.pf_smtp.specs.declared.reply.LineReply.TheVariants.{TooLong, BadSyntax, NotRecognized}
use Rattle.pf_smtp.specs.declared.reply.MailReply.TheVariants as mail_reply
use Rattle.pf_smtp.specs.declared.reply.QuitReply.TheVariants as quit_reply
use Rattle.pf_smtp.specs.declared.reply.RcptReply.TheVariants as rcpt_reply
use Rattle.pf_smtp.specs.declared.reply.Reply.TheVariants.{Line, Helo, Mail, Rcpt, Quit}
use Rattle.pf_smtp.specs.declared.session.Going.TheVariants.{More, Ended}
use Rattle.pf_smtp.specs.declared.state.Setup.{Setup}
use Rattle.pf_smtp.specs.declared.state.State.{State}

-- a site with the client 192.0.2.9, which is a stranger, two addresses, and the states without and with a transaction
abbrev site : Setup
site = record {
  host = codes "mx.example.com";
  banner = codes "mx.example.com ESMTP Postfix";
  policy = record {
    destinations = codes "example.com" ∷ [];
    networks = record { addr = V4 167772160; prefix = 8 } ∷ [];
    relay = PermitMynetworks ∷ RejectUnauthDestination ∷ [];
  };
  client = V4 3221225993;
}

abbrev joe : Address
joe = record { local = codes "joe"; domain = codes "other.test" }

abbrev ann : Address
ann = record { local = codes "ann"; domain = codes "Example.com" }

abbrev idle : State
idle = record { line = 7; sender = None; ended = false }

abbrev begun : State
begun = record { line = 7; sender = Some (To joe); ended = false }

abbrev bounce : State
bounce = record { line = 7; sender = Some Null; ended = false }

abbrev ended : State
ended = record { line = 7; sender = None; ended = true }

-- verbs
verbs_in_any_case : map verb_named (codes "helo" ∷ codes "Mail" ∷ codes "rcPT" ∷ codes "QUIT" ∷ [])
    ≡ verb.Helo ∷ verb.Mail ∷ verb.Rcpt ∷ verb.Quit ∷ []
verbs_in_any_case = refl

other_verbs : map verb_named (codes "EHLO" ∷ codes "HELOO" ∷ codes "QUI" ∷ []) ≡ verb.Other ∷ verb.Other ∷ verb.Other ∷ []
other_verbs = refl

verb_before_the_first_space : map verb_of (codes "mail FROM:<a@b>" ∷ codes "QUIT\tx" ∷ codes "QUIT" ∷ []) ≡ verb.Mail ∷ verb.Quit ∷ verb.Quit ∷ []
unfolding verb_of
verb_before_the_first_space = refl

no_verb : map verb_of ([] ∷ codes "MAIL:" ∷ []) ≡ verb.Empty ∷ verb.Other ∷ []
unfolding verb_of
no_verb = refl

rest_of_the_line : map argument_of (codes "HELO \t a b" ∷ codes "QUIT" ∷ []) ≡ codes "a b" ∷ [] ∷ []
rest_of_the_line = refl

keyword_in_any_case : map (after_keyword (codes "FROM:")) (codes "From: \t<a@b>" ∷ codes "FROM:" ∷ []) ≡ Some (codes " \t<a@b>") ∷ Some [] ∷ []
unfolding after_keyword
keyword_in_any_case = refl

no_keyword : map (after_keyword (codes "TO:")) (codes "TO" ∷ codes "TO :<a@b>" ∷ [] ∷ []) ≡ None ∷ None ∷ None ∷ []
unfolding after_keyword
no_keyword = refl

-- paths
path_of_joe : whole_path (codes "<joe@other.test>") ≡ Some (To joe)
unfolding whole_path path_of first_path path bare bracketed routed_mailbox mailbox mailbox_with_domain is_domain local_part dot_string quoted_string between is_at_domain is_literal_byte is_lone_byte is_name_byte is_plain_byte is_route
path_of_joe = refl

path_of_ann : whole_path (codes "<ann@Example.com>") ≡ Some (To ann)
unfolding whole_path path_of first_path path bare bracketed routed_mailbox mailbox mailbox_with_domain is_domain local_part dot_string quoted_string between is_at_domain is_literal_byte is_lone_byte is_name_byte is_plain_byte is_route
path_of_ann = refl

null_path : whole_path (codes "<>") ≡ Some Null
unfolding whole_path path_of first_path path bare bracketed routed_mailbox mailbox mailbox_with_domain is_domain local_part dot_string quoted_string between is_at_domain is_literal_byte is_lone_byte is_name_byte is_plain_byte is_route
null_path = refl

other_paths_of_joe : map whole_path (codes "joe@other.test" ∷ codes " \t<joe@other.test>" ∷ codes "<@a.test,@b.test:joe@other.test>" ∷ codes "<\"j\\oe\"@other.test>" ∷ [])
    ≡ replicate 4 (Some (To joe))
unfolding whole_path path_of first_path path bare bracketed routed_mailbox mailbox mailbox_with_domain is_domain local_part dot_string quoted_string between is_at_domain is_literal_byte is_lone_byte is_name_byte is_plain_byte is_route
other_paths_of_joe = refl

paths_with_something_after : map whole_path (codes "<joe@other.test> SIZE=1" ∷ codes "<joe@other.test>x" ∷ codes "joe@other.test x" ∷ codes "<> x" ∷ []) ≡ replicate 4 None
unfolding whole_path path_of first_path path bare bracketed routed_mailbox mailbox mailbox_with_domain is_domain local_part dot_string quoted_string between is_at_domain is_literal_byte is_lone_byte is_name_byte is_plain_byte is_route
paths_with_something_after = refl

no_paths : map whole_path ([] ∷ codes "<joe@other.test" ∷ codes "<joe@>" ∷ codes "<@b.test>" ∷ codes "<joe doe@b.test>" ∷ []) ≡ replicate 5 None
unfolding whole_path path_of first_path path bare bracketed routed_mailbox mailbox mailbox_with_domain is_domain local_part dot_string quoted_string between is_at_domain is_literal_byte is_lone_byte is_name_byte is_plain_byte is_route
no_paths = refl

-- the domain that a recipient is judged by
local_parts_that_route : map (λ local. is_routed (record { local = local; domain = codes "example.com" })) (codes "a@b" ∷ codes "b!a" ∷ codes "a%b" ∷ codes "a+b" ∷ [])
    ≡ true ∷ true ∷ true ∷ false ∷ []
local_parts_that_route = refl

domains_that_are_judged : map judged_domain (ann ∷ record { local = codes "a%b"; domain = codes "example.com" } ∷ record { local = codes "a"; domain = [] } ∷ [])
    ≡ codes "Example.com" ∷ [] ∷ [] ∷ []
domains_that_are_judged = refl

ends_of_the_relay_list : map (relay_end site) (ann ∷ joe ∷ record { local = codes "a%b"; domain = codes "example.com" } ∷ record { local = codes "a"; domain = [] } ∷ [])
    ≡ Accept ∷ Deny 2 ∷ Deny 2 ∷ Deny 2 ∷ []
unfolding relay_end end_of
ends_of_the_relay_list = refl

-- replies and log lines of a step
one_reply : says (Line TooLong) idle ≡ record { replies = Line TooLong ∷ []; records = []; entries = []; next = idle }
one_reply = refl

reply_and_log_line : logs (Rcpt rcpt_reply.Taken) (Accepted 7 ann) begun
    ≡ record { replies = Rcpt rcpt_reply.Taken ∷ []; records = []; entries = Accepted 7 ann ∷ []; next = begun }
reply_and_log_line = refl

-- HELO
helo_without_a_name : helo begun [] ≡ says (Helo NeedsName) begun
helo_without_a_name = refl

helo_ends_a_transaction : helo begun (codes "a b") ≡ says (Helo Hello) idle
helo_ends_a_transaction = refl

-- MAIL
sender_or_none : map (mail_from idle) (Some (To joe) ∷ Some Null ∷ None ∷ [])
    ≡ says (Mail mail_reply.Taken) begun ∷ says (Mail mail_reply.Taken) bounce ∷ says (Mail mail_reply.BadSender) idle ∷ []
sender_or_none = refl

path_or_none : map (mail_path idle) (Some (codes "<joe@other.test>") ∷ Some (codes "<>") ∷ None ∷ [])
    ≡ says (Mail mail_reply.Taken) begun ∷ says (Mail mail_reply.Taken) bounce ∷ says (Mail mail_reply.Syntax) idle ∷ []
path_or_none = rw (path_of_joe, null_path)

nested_before_syntax : mail begun (codes "x") ≡ says (Mail mail_reply.Nested) begun
nested_before_syntax = refl

mail_begins_a_transaction : mail idle (codes "from:<joe@other.test>") ≡ says (Mail mail_reply.Taken) begun
unfolding after_keyword
mail_begins_a_transaction = rw path_of_joe

option_after_a_path : mail idle (codes "FROM:<joe@other.test> SIZE=1") ≡ says (Mail mail_reply.BadSender) idle
unfolding after_keyword whole_path path_of first_path path bare bracketed routed_mailbox mailbox mailbox_with_domain is_domain local_part dot_string quoted_string between is_at_domain is_literal_byte is_lone_byte is_name_byte is_plain_byte is_route
option_after_a_path = refl

mail_in_a_bounce : mail bounce (codes "FROM:<joe@other.test>") ≡ says (Mail mail_reply.Nested) bounce
mail_in_a_bounce = refl

keyword_of_rcpt_in_mail : mail idle (codes "TO:<joe@other.test>") ≡ says (Mail mail_reply.Syntax) idle
unfolding after_keyword
keyword_of_rcpt_in_mail = refl

-- RCPT
accepted_in_a_transaction : judged begun joe Accept ≡ logs (Rcpt rcpt_reply.Taken) (Accepted 7 joe) begun
accepted_in_a_transaction = refl

denial_leaves_it_open : judged begun joe (Deny 2) ≡ logs (Rcpt (rcpt_reply.RelayDenied joe)) (Denied 7 joe 2) begun
denial_leaves_it_open = refl

recipients : map (rcpt_to site begun) (Some (To ann) ∷ Some (To joe) ∷ Some Null ∷ None ∷ [])
    ≡ logs (Rcpt rcpt_reply.Taken) (Accepted 7 ann) begun ∷ logs (Rcpt (rcpt_reply.RelayDenied joe)) (Denied 7 joe 2) begun
    ∷ says (Rcpt rcpt_reply.BadRecipient) begun ∷ says (Rcpt rcpt_reply.BadRecipient) begun ∷ []
unfolding relay_end end_of
recipients = refl

recipient_paths : map (rcpt_path site begun) (Some (codes "<ann@Example.com>") ∷ Some (codes "<>") ∷ None ∷ [])
    ≡ logs (Rcpt rcpt_reply.Taken) (Accepted 7 ann) begun ∷ says (Rcpt rcpt_reply.BadRecipient) begun ∷ says (Rcpt rcpt_reply.Syntax) begun ∷ []
unfolding relay_end end_of
recipient_paths = rw (path_of_ann, null_path)

recipient_of_a_bounce : rcpt site bounce (codes "TO:<ann@Example.com>") ≡ logs (Rcpt rcpt_reply.Taken) (Accepted 7 ann) bounce
unfolding after_keyword relay_end end_of
recipient_of_a_bounce = rw path_of_ann

need_of_mail_before_syntax : rcpt site idle (codes "x") ≡ says (Rcpt rcpt_reply.NeedMail) idle
need_of_mail_before_syntax = refl

space_after_a_keyword : rcpt site begun (codes "to: <joe@other.test>") ≡ logs (Rcpt (rcpt_reply.RelayDenied joe)) (Denied 7 joe 2) begun
unfolding after_keyword relay_end end_of whole_path path_of first_path path bare bracketed routed_mailbox mailbox mailbox_with_domain is_domain local_part dot_string quoted_string between is_at_domain is_literal_byte is_lone_byte is_name_byte is_plain_byte is_route
space_after_a_keyword = refl

keyword_of_mail_in_rcpt : rcpt site begun (codes "FROM:<ann@Example.com>") ≡ says (Rcpt rcpt_reply.Syntax) begun
unfolding after_keyword
keyword_of_mail_in_rcpt = refl

-- QUIT
quit_ends_the_session : quit idle [] ≡ says (Quit quit_reply.Bye) ended
quit_ends_the_session = refl

quit_with_an_argument : quit idle (codes "x") ≡ says (Quit quit_reply.Syntax) idle
quit_with_an_argument = refl

-- lines
row_of_each_verb : map (λ v. (command site idle v []).replies) (verb.Empty ∷ verb.Helo ∷ verb.Mail ∷ verb.Rcpt ∷ verb.Quit ∷ verb.Other ∷ [])
    ≡ (Line BadSyntax ∷ []) ∷ (Helo NeedsName ∷ []) ∷ (Mail mail_reply.Syntax ∷ []) ∷ (Rcpt rcpt_reply.NeedMail ∷ [])
    ∷ (Quit quit_reply.Bye ∷ []) ∷ (Line NotRecognized ∷ []) ∷ []
unfolding command after_keyword
row_of_each_verb = refl

longest_line : line_step site idle (replicate 2048 97) ≡ says (Line NotRecognized) idle
unfolding command verb_of
longest_line = refl

line_too_long : line_step site idle (replicate 2049 97) ≡ says (Line TooLong) idle
line_too_long = refl

space_at_the_ends_counts : line_step site idle (codes "QUIT" ++ replicate 2045 32) ≡ says (Line TooLong) idle
space_at_the_ends_counts = refl

greatest_length_with_space : line_step site idle (codes "QUIT" ++ replicate 2044 32) ≡ says (Quit quit_reply.Bye) ended
unfolding command verb_of
greatest_length_with_space = refl

space_at_the_ends : line_step site idle (codes "\t QUIT  ") ≡ says (Quit quit_reply.Bye) ended
unfolding command verb_of
space_at_the_ends = refl

space_alone : line_step site idle (codes " \t") ≡ says (Line BadSyntax) idle
unfolding command verb_of
space_alone = refl

abbrev later : State
later = record { line = 8; sender = None; ended = false }

return_does_not_count : step site idle (replicate 2048 97 ++ 13 ∷ []) ≡ says (Line NotRecognized) later
unfolding step command verb_of
return_does_not_count = refl

long_line_is_numbered : step site idle (replicate 2049 97 ++ 13 ∷ []) ≡ says (Line TooLong) later
unfolding step
long_line_is_numbered = refl

log_line_has_the_next_number : (step site begun (codes "RCPT TO:<ann@Example.com>\r")).entries ≡ Accepted 8 ann ∷ []
unfolding step command verb_of after_keyword relay_end end_of
log_line_has_the_next_number = rw path_of_ann

-- sessions
nothing_is_said : stays begun ≡ record { replies = []; records = []; entries = []; next = begun }
nothing_is_said = refl

one_after_the_other : before (logs (Rcpt rcpt_reply.Taken) (Accepted 7 ann) begun) (says (Helo Hello) idle)
    ≡ record { replies = Rcpt rcpt_reply.Taken ∷ Helo Hello ∷ []; records = []; entries = Accepted 7 ann ∷ []; next = idle }
one_after_the_other = refl

lines_after_quit : steps site idle (codes "QUIT\r" ∷ codes "X" ∷ []) ≡ says (Quit quit_reply.Bye) (record { line = 8; sender = None; ended = true })
unfolding steps step command verb_of
lines_after_quit = refl

over_at_the_start : steps site ended (codes "X" ∷ []) ≡ stays ended
unfolding steps
over_at_the_start = refl

state_at_the_start : start ≡ record { line = 0; sender = None; ended = false }
state_at_the_start = refl

empty_input : session site [] ≡ stays start
unfolding steps lines
empty_input = refl

bytes_after_the_last_line : session site (codes "HELO a\r\n\nQUIT")
    ≡ record { replies = Helo Hello ∷ Line BadSyntax ∷ []; records = []; entries = []; next = record { line = 2; sender = None; ended = false } }
unfolding steps step command verb_of lines
bytes_after_the_last_line = refl

helo_between_mail_and_rcpt : (session site (codes "MAIL FROM:<joe@other.test>\nHELO a\nRCPT TO:<ann@Example.com>\n")).replies
    ≡ Mail mail_reply.Taken ∷ Helo Hello ∷ Rcpt rcpt_reply.NeedMail ∷ []
unfolding steps step command verb_of after_keyword lines
helo_between_mail_and_rcpt = rw path_of_joe

texts_of_a_step : replies_text site (before (says (Quit quit_reply.Syntax) idle) (says (Quit quit_reply.Bye) ended))
    ≡ codes "501 5.5.4 Syntax: QUIT\r\n221 2.0.0 Bye\r\n"
unfolding text_of quit_text
texts_of_a_step = refl

no_record_line : records_text (stays idle) ≡ []
no_record_line = refl

no_text : replies_text site (stays idle) ≡ []
no_text = refl

log_lines_of_a_step : map log_text (judged begun ann Accept ∷ stays begun ∷ []) ≡ codes "7 RCPT <ann@Example.com> accept\n" ∷ [] ∷ []
unfolding log_line printed_line accepted_text recipient_text printed_address printed_local printed_domain is_atom_byte digits
log_lines_of_a_step = refl

before_the_first_byte : fresh site ≡ record { setup = site; state = start; partial = [] }
before_the_first_byte = refl

line_in_two_pieces : given (record { setup = site; state = idle; partial = codes "QU" }) (codes "IT\nX\n")
    ≡ says (Quit quit_reply.Bye) (record { line = 8; sender = None; ended = true })
unfolding steps step command verb_of lines
line_in_two_pieces = refl

line_that_has_not_ended : given (record { setup = site; state = idle; partial = codes "QU" }) (codes "IT") ≡ stays idle
unfolding steps lines
line_that_has_not_ended = refl

end_of_a_line : line_given (record { setup = site; state = idle; partial = codes "QUI" }) (codes "\r") ≡ says (Line NotRecognized) later
unfolding step command verb_of
end_of_a_line = refl

part_of_a_line : map (partial_after (record { setup = site; state = idle; partial = codes "QU" })) (codes "I" ∷ codes "IT\nHE" ∷ codes "IT\n" ∷ [])
    ≡ codes "QUI" ∷ codes "HE" ∷ [] ∷ []
unfolding lines rest
part_of_a_line = refl

longest_partial_line : length (partial_after (fresh site) (replicate 2051 97)) ≡ 2050
unfolding lines rest
longest_partial_line = refl

ended_or_not : map going_of (idle ∷ ended ∷ []) ≡ More ∷ Ended ∷ []
ended_or_not = refl

-- texts of replies
parts_in_turn : joined (codes "a" ∷ [] ∷ codes "bc" ∷ []) ≡ codes "abc"
parts_in_turn = refl

line_end : crlf ≡ codes "\r\n"
line_end = refl

texts_of_lines : map line_text (TooLong ∷ BadSyntax ∷ NotRecognized ∷ [])
    ≡ codes "500 5.5.2 Error: line too long" ∷ codes "500 5.5.2 Error: bad syntax" ∷ codes "500 5.5.2 Error: command not recognized" ∷ []
unfolding line_text
texts_of_lines = refl

texts_of_helo : map (helo_text (codes "mx.example.com")) (NeedsName ∷ Hello ∷ [])
    ≡ codes "501 5.5.4 Syntax: HELO hostname" ∷ codes "250 mx.example.com" ∷ []
unfolding helo_text
texts_of_helo = refl

texts_of_mail : map mail_text (mail_reply.Nested ∷ mail_reply.Syntax ∷ mail_reply.BadSender ∷ mail_reply.Taken ∷ [])
    ≡ codes "503 5.5.1 Error: nested MAIL command" ∷ codes "501 5.5.4 Syntax: MAIL FROM:<address>"
    ∷ codes "501 5.1.7 Bad sender address syntax" ∷ codes "250 2.1.0 Ok" ∷ []
unfolding mail_text
texts_of_mail = refl

text_of_a_denial : relay_denied_text ann ≡ codes "554 5.7.1 <ann@Example.com>: Relay access denied"
unfolding relay_denied_text printed_address printed_local printed_domain is_atom_byte
text_of_a_denial = refl

text_of_a_quoted_local_part : relay_denied_text (record { local = codes "a \"b"; domain = codes "example.com" })
    ≡ codes "554 5.7.1 <\"a \\\"b\"@example.com>: Relay access denied"
unfolding relay_denied_text escaped printed_address printed_local printed_domain is_atom_byte
text_of_a_quoted_local_part = refl

text_without_a_domain : relay_denied_text (record { local = codes "postmaster"; domain = [] }) ≡ codes "554 5.7.1 <postmaster>: Relay access denied"
unfolding relay_denied_text printed_address printed_local printed_domain is_atom_byte
text_without_a_domain = refl

texts_of_rcpt : map rcpt_text (rcpt_reply.NeedMail ∷ rcpt_reply.Syntax ∷ rcpt_reply.BadRecipient ∷ rcpt_reply.RelayDenied joe ∷ rcpt_reply.Taken ∷ [])
    ≡ codes "503 5.5.1 Error: need MAIL command" ∷ codes "501 5.5.4 Syntax: RCPT TO:<address>"
    ∷ codes "501 5.1.3 Bad recipient address syntax" ∷ codes "554 5.7.1 <joe@other.test>: Relay access denied" ∷ codes "250 2.1.5 Ok" ∷ []
unfolding rcpt_text relay_denied_text printed_address printed_local printed_domain is_atom_byte
texts_of_rcpt = refl

texts_of_quit : map quit_text (quit_reply.Syntax ∷ quit_reply.Bye ∷ []) ≡ codes "501 5.5.4 Syntax: QUIT" ∷ codes "221 2.0.0 Bye" ∷ []
unfolding quit_text
texts_of_quit = refl

text_of_each_kind : map (reply_text (codes "mx"))
    (Line BadSyntax ∷ Helo Hello ∷ Mail mail_reply.Taken ∷ Rcpt rcpt_reply.Taken ∷ Quit quit_reply.Bye ∷ [])
    ≡ codes "500 5.5.2 Error: bad syntax" ∷ codes "250 mx" ∷ codes "250 2.1.0 Ok" ∷ codes "250 2.1.5 Ok" ∷ codes "221 2.0.0 Bye" ∷ []
unfolding line_text helo_text mail_text rcpt_text quit_text
text_of_each_kind = refl

reply_as_it_is_sent : text_of (codes "mx") (Helo Hello) ≡ codes "250 mx\r\n"
unfolding text_of helo_text
reply_as_it_is_sent = refl

greeting : greeting_of site.banner ≡ codes "220 mx.example.com ESMTP Postfix\r\n"
unfolding greeting_of
greeting = refl

greeting_by_another_banner : greeting_of (codes "a b") ≡ codes "220 a b\r\n"
unfolding greeting_of
greeting_by_another_banner = refl

control_bytes_in_a_greeting : greeting_of (codes "a\tb\n") ≡ codes "220 a?b?\r\n"
unfolding greeting_of
control_bytes_in_a_greeting = refl

control_bytes_in_a_reply : text_of (codes "m\rx") (Helo Hello) ≡ codes "250 m?x\r\n"
unfolding text_of helo_text
control_bytes_in_a_reply = refl

-- log lines
beginning_of_a_log_line : recipient_text 12 ann ≡ codes "12 RCPT <ann@Example.com> "
unfolding recipient_text printed_address printed_local printed_domain is_atom_byte digits
beginning_of_a_log_line = refl

what_denied : denial_text 10 ≡ codes "deny smtpd_relay_restrictions[10] reject_unauth_destination -"
unfolding denial_text digits
what_denied = refl

accepted_recipient : accepted_text 12 ann ≡ codes "12 RCPT <ann@Example.com> accept"
unfolding accepted_text recipient_text printed_address printed_local printed_domain is_atom_byte digits
accepted_recipient = refl

denied_recipient : denied_text 3 joe 10 ≡ codes "3 RCPT <joe@other.test> deny smtpd_relay_restrictions[10] reject_unauth_destination -"
unfolding denied_text recipient_text printed_address printed_local printed_domain is_atom_byte denial_text digits
denied_recipient = refl

either_log_line : map log_line (Accepted 1 ann ∷ Denied 2 joe 1 ∷ []) ≡ codes "1 RCPT <ann@Example.com> accept\n"
    ∷ codes "2 RCPT <joe@other.test> deny smtpd_relay_restrictions[1] reject_unauth_destination -\n" ∷ []
unfolding log_line printed_line accepted_text denied_text recipient_text printed_address printed_local printed_domain is_atom_byte denial_text digits
either_log_line = refl
