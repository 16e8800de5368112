-- A step of a session: a state and a line give replies, record lines, log lines and the next state (RFC 5321, 4.1).
use Rattle.std.specs.Prelude.{ℕ, ◌==◌, ◌||◌, Bool, true, nat_lt, List, [], ◌∷◌, Option, Some, None, is_some, is_none, length, codes, if◌then◌else◌}
use Rattle.std.specs.List.{list_any}
use Rattle.pf_base.specs.Outside.Counts.{counted}
use Rattle.pf_base.specs.Text.Ascii as ascii
use Rattle.pf_base.specs.Text.Lines.{without_return}
use Rattle.pf_base.specs.Text.Space.{trimmed}
use Rattle.pf_eval.specs.Judge.{end_of}
use Rattle.pf_eval.specs.declared.policy.PlainEnd.{PlainEnd}
use Rattle.pf_eval.specs.declared.policy.PlainEnd.TheVariants.{Accept, Deny}
use Rattle.pf_addr.specs.declared.address.Address.{Address}
use Rattle.pf_addr.specs.declared.address.Path.{Path}
use Rattle.pf_addr.specs.declared.address.Path.TheVariants.{Null, To}
use Rattle.pf_smtp.specs.Command.{verb_of, argument_of, after_keyword, whole_path}
use Rattle.pf_smtp.specs.declared.command.Verb.{Verb}
use Rattle.pf_smtp.specs.declared.command.Verb.TheVariants as verb
use Rattle.pf_smtp.specs.declared.entry.Entry.{Entry}
use Rattle.pf_smtp.specs.declared.entry.Entry.TheVariants.{Accepted, Denied}
use Rattle.pf_smtp.specs.declared.record_line.RecordLine.{RecordLine}
use Rattle.pf_smtp.specs.declared.reply.LineReply.TheVariants.{TooLong, BadSyntax, NotRecognized}
use Rattle.pf_smtp.specs.declared.reply.HeloReply.TheVariants.{NeedsName, Hello}
use Rattle.pf_smtp.specs.declared.reply.MailReply.TheVariants as mail_reply
use Rattle.pf_smtp.specs.declared.reply.RcptReply.TheVariants as rcpt_reply
use Rattle.pf_smtp.specs.declared.reply.QuitReply.TheVariants as quit_reply
use Rattle.pf_smtp.specs.declared.reply.Reply.{Reply}
use Rattle.pf_smtp.specs.declared.reply.Reply.TheVariants.{Line, Helo, Mail, Rcpt, Quit}
use Rattle.pf_smtp.specs.declared.state.Setup.{Setup}
use Rattle.pf_smtp.specs.declared.state.State.{State}

-- what a line gives
pub record Step : Type 0 where
  pub replies : List Reply
  pub records : List RecordLine
  pub entries : List Entry
  pub next : State

-- one reply, and the state after it
abbrev pub says : Reply → State → Step
says reply state = record { replies = reply ∷ []; records = []; entries = []; next = state }

-- one reply and one log line
abbrev pub logs : Reply → Entry → State → Step
logs reply entry state = record { replies = reply ∷ []; records = []; entries = entry ∷ []; next = state }

-- HELO name, which ends a transaction (RFC 5321, 4.1.1.1)
abbrev pub helo : State → List ℕ → Step
helo state argument =
    if length argument == 0 then says (Helo NeedsName) state else says (Helo Hello) (record state { sender = None })

-- MAIL FROM:path, which begins a transaction; the null path is a sender too (RFC 5321, 4.1.1.2)
abbrev pub mail_from : State → Option (Path Address) → Step
mail_from state None = says (Mail mail_reply.BadSender) state
mail_from state (Some path) = says (Mail mail_reply.Taken) (record state { sender = Some path })

-- MAIL, by what comes after its keyword
abbrev pub mail_path : State → Option (List ℕ) → Step
mail_path state None = says (Mail mail_reply.Syntax) state
mail_path state (Some text) = mail_from state (whole_path text)

-- MAIL, outside a transaction alone
abbrev pub mail : State → List ℕ → Step
mail state argument =
    if is_some state.sender then says (Mail mail_reply.Nested) state else mail_path state (after_keyword (codes "FROM:") argument)

-- a byte is in a local part
abbrev pub local_has : ℕ → Address → Bool
local_has byte address = list_any (λ b. b == byte) address.local

-- the local part names a site that the mail goes on to: user@site, site!user or user%site (ADDRESS_REWRITING_README; postconf(5),
-- resolve_dequoted_address, swap_bangpath, allow_percent_hack)
abbrev pub is_routed : Address → Bool
is_routed address = local_has ascii.at_sign address || local_has ascii.exclamation_mark address || local_has ascii.percent_sign address

-- the domain that a recipient is judged by: that of a routed address says nothing of where its mail goes
abbrev pub judged_domain : Address → List ℕ
judged_domain address = if is_routed address then [] else address.domain

-- how the relay list ends for a recipient
unfoldable pub relay_end : Setup → Address → PlainEnd
relay_end setup address = end_of setup.policy setup.client (judged_domain address)

-- RCPT TO:path, in a transaction (RFC 5321, 4.1.1.3): the recipient is accepted, or a restriction denies it
abbrev pub judged : State → Address → PlainEnd → Step
judged state address Accept = logs (Rcpt rcpt_reply.Taken) (Accepted state.line address) state
judged state address (Deny place) = logs (Rcpt (rcpt_reply.RelayDenied address)) (Denied state.line address place) state

-- RCPT, by its path; the null path is no recipient
abbrev pub rcpt_to : Setup → State → Option (Path Address) → Step
rcpt_to setup state None = says (Rcpt rcpt_reply.BadRecipient) state
rcpt_to setup state (Some Null) = says (Rcpt rcpt_reply.BadRecipient) state
rcpt_to setup state (Some (To address)) = judged state address (relay_end setup address)

-- RCPT, by what comes after its keyword
abbrev pub rcpt_path : Setup → State → Option (List ℕ) → Step
rcpt_path setup state None = says (Rcpt rcpt_reply.Syntax) state
rcpt_path setup state (Some text) = rcpt_to setup state (whole_path text)

-- RCPT, in a transaction alone
abbrev pub rcpt : Setup → State → List ℕ → Step
rcpt setup state argument =
    if is_none state.sender then says (Rcpt rcpt_reply.NeedMail) state else rcpt_path setup state (after_keyword (codes "TO:") argument)

-- QUIT, which ends the session (RFC 5321, 4.1.1.10)
abbrev pub quit : State → List ℕ → Step
quit state argument =
    if length argument == 0 then says (Quit quit_reply.Bye) (record state { ended = true }) else says (Quit quit_reply.Syntax) state

-- the row of a verb
unfoldable pub command : Setup → State → Verb → List ℕ → Step
command setup state verb.Empty argument = says (Line BadSyntax) state
command setup state verb.Helo argument = helo state argument
command setup state verb.Mail argument = mail state argument
command setup state verb.Rcpt argument = rcpt setup state argument
command setup state verb.Quit argument = quit state argument
command setup state verb.Other argument = says (Line NotRecognized) state

-- the most bytes of a line without its line end, which is the default of line_length_limit (postconf(5)); RFC 5321, 4.5.3.1.4, asks for 512
abbrev pub line_limit : ℕ
line_limit = 2048

-- a line without its line end: one above the limit is answered as it is, another without space at its ends
abbrev pub line_step : Setup → State → List ℕ → Step
line_step setup state line =
    if nat_lt line_limit (length line) then says (Line TooLong) state
    else command setup state (verb_of (trimmed line)) (argument_of (trimmed line))

-- the next line, as it is before its line feed; lines are numbered from 1
unfoldable pub step : Setup → State → List ℕ → Step
step setup state raw = line_step setup (record state { line = counted state.line }) (without_return raw)
