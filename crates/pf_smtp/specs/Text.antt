-- The texts of replies (RFC 5321, 4.2, with the codes x.y.z of RFC 3463), of record lines and of log lines. The words after the codes, the record
-- and the log are postgate's own.
use Rattle.std.specs.Prelude.{ℕ, ◌++◌, List, [], ◌∷◌, codes}
use Rattle.std.specs.Fmt.{decimal}
use Rattle.std.specs.List.{flat_map}
use Rattle.pf_base.specs.Text.Ascii as ascii
use Rattle.pf_base.specs.Text.Printing.{printed, printed_line}
use Rattle.pf_addr.specs.Printed.{printed as printed_address}
use Rattle.pf_addr.specs.declared.address.Address.{Address}
use Rattle.pf_smtp.specs.declared.entry.Entry.{Entry}
use Rattle.pf_smtp.specs.declared.entry.Entry.TheVariants.{Accepted, Denied}
use Rattle.pf_smtp.specs.declared.record_line.RecordLine.{RecordLine}
use Rattle.pf_smtp.specs.declared.reply.LineReply.{LineReply}
use Rattle.pf_smtp.specs.declared.reply.LineReply.TheVariants.{TooLong, BadSyntax, NotRecognized}
use Rattle.pf_smtp.specs.declared.reply.HeloReply.{HeloReply}
use Rattle.pf_smtp.specs.declared.reply.HeloReply.TheVariants.{NeedsName, Hello}
use Rattle.pf_smtp.specs.declared.reply.MailReply.{MailReply}
use Rattle.pf_smtp.specs.declared.reply.MailReply.TheVariants as mail
use Rattle.pf_smtp.specs.declared.reply.RcptReply.{RcptReply}
use Rattle.pf_smtp.specs.declared.reply.RcptReply.TheVariants as rcpt
use Rattle.pf_smtp.specs.declared.reply.QuitReply.{QuitReply}
use Rattle.pf_smtp.specs.declared.reply.QuitReply.TheVariants as quit
use Rattle.pf_smtp.specs.declared.reply.Reply.{Reply}
use Rattle.pf_smtp.specs.declared.reply.Reply.TheVariants.{Line, Helo, Mail, Rcpt, Quit}

-- parts of a text in turn
abbrev pub joined : List (List ℕ) → List ℕ
joined parts = flat_map (λ part. part) parts

-- RFC 5321, 2.3.8: a reply line ends by CR LF
abbrev pub crlf : List ℕ
crlf = ascii.carriage_return ∷ ascii.line_feed ∷ []

-- to a line that is no command
unfoldable pub line_text : LineReply → List ℕ
line_text TooLong = codes "500 5.5.2 Error: line too long"
line_text BadSyntax = codes "500 5.5.2 Error: bad syntax"
line_text NotRecognized = codes "500 5.5.2 Error: command not recognized"

-- to HELO
unfoldable pub helo_text : List ℕ → HeloReply → List ℕ
helo_text host NeedsName = codes "501 5.5.4 Syntax: HELO hostname"
helo_text host Hello = joined (codes "250 " ∷ host ∷ [])

-- to MAIL
unfoldable pub mail_text : MailReply → List ℕ
mail_text mail.Nested = codes "503 5.5.1 Error: nested MAIL command"
mail_text mail.Syntax = codes "501 5.5.4 Syntax: MAIL FROM:<address>"
mail_text mail.BadSender = codes "501 5.1.7 Bad sender address syntax"
mail_text mail.Taken = codes "250 2.1.0 Ok"

-- to a recipient that is denied: the code is that of relay_domains_reject_code (postconf(5))
unfoldable pub relay_denied_text : Address → List ℕ
relay_denied_text address = joined (codes "554 5.7.1 <" ∷ printed_address address ∷ codes ">: Relay access denied" ∷ [])

-- to RCPT
unfoldable pub rcpt_text : RcptReply → List ℕ
rcpt_text rcpt.NeedMail = codes "503 5.5.1 Error: need MAIL command"
rcpt_text rcpt.Syntax = codes "501 5.5.4 Syntax: RCPT TO:<address>"
rcpt_text rcpt.BadRecipient = codes "501 5.1.3 Bad recipient address syntax"
rcpt_text (rcpt.RelayDenied address) = relay_denied_text address
rcpt_text rcpt.Taken = codes "250 2.1.5 Ok"

-- to QUIT
unfoldable pub quit_text : QuitReply → List ℕ
quit_text quit.Syntax = codes "501 5.5.4 Syntax: QUIT"
quit_text quit.Bye = codes "221 2.0.0 Bye"

-- a reply without its line end
abbrev pub reply_text : List ℕ → Reply → List ℕ
reply_text host (Line reply) = line_text reply
reply_text host (Helo reply) = helo_text host reply
reply_text host (Mail reply) = mail_text reply
reply_text host (Rcpt reply) = rcpt_text reply
reply_text host (Quit reply) = quit_text reply

-- a reply as it is sent: as it is printed, and its line end
unfoldable pub text_of : List ℕ → Reply → List ℕ
text_of host reply = printed (reply_text host reply) ++ crlf

-- what a server says first: its banner after the code (postconf(5), smtpd_banner; RFC 5321, 4.2)
unfoldable pub greeting_of : List ℕ → List ℕ
greeting_of banner = printed (codes "220 " ++ banner) ++ crlf

-- a line of a message's record; no verb of today gives one
abbrev pub record_text : RecordLine → List ℕ
record_text line = elim line [ ]

-- what a log line begins with: the number of the command's line, and its recipient
unfoldable pub recipient_text : ℕ → Address → List ℕ
recipient_text line recipient = joined (decimal line ∷ codes " RCPT <" ∷ printed_address recipient ∷ codes "> " ∷ [])

-- a recipient that was accepted
unfoldable pub accepted_text : ℕ → Address → List ℕ
accepted_text line recipient = recipient_text line recipient ++ codes "accept"

-- what denied a recipient: the place of the restriction in its list
unfoldable pub denial_text : ℕ → List ℕ
denial_text place = joined (codes "deny smtpd_relay_restrictions[" ∷ decimal place ∷ codes "] reject_unauth_destination -" ∷ [])

-- a recipient that was denied
unfoldable pub denied_text : ℕ → Address → ℕ → List ℕ
denied_text line recipient place = recipient_text line recipient ++ denial_text place

-- what was decided of a recipient, with the number of the command's line
abbrev pub entry_text : Entry → List ℕ
entry_text (Accepted line recipient) = accepted_text line recipient
entry_text (Denied line recipient place) = denied_text line recipient place

-- its line in the decision log
unfoldable pub log_line : Entry → List ℕ
log_line entry = printed_line (entry_text entry)
