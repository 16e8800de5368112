-- The objects outside that a run is given, what is written to the sinks among them, and how a fault breaks that off. Words of contracts, by no
-- standard; that the record of messages is written before the log and that before the output is postgate's own.
use Rattle.std.specs.Prelude.{◌≡◌, ◌≢◌, ◌⊎◌, ℕ, List, [], ◌++◌, Result, Ok, Err, MatchResult}
use Rattle.pf_base.specs.Outside.Known.{HoldsPrefix, Input, Output, Tree, failed_output, wrote}
use Rattle.pf_base.specs.declared.fault.OuterFault.{OuterFault}
use Rattle.pf_base.specs.declared.fault.OuterFault.TheVariants as outer
use Rattle.pf_base.specs.declared.outside.status.TheConstants.{LOG_FAILED, MAIL_FAILED, NO_MEMORY, OUT_FAILED}
use Rattle.pf_base.specs.declared.outside.texts.SinkFault.{SinkFault}
use Rattle.pf_base.specs.declared.outside.texts.SinkFault.TheVariants as fault
use Rattle.pf_base.specs.declared.outside.texts.Texts.{Texts}

-- the output, the record of messages and the log
pub record Sinks : Type 0 where
  pub out : Output
  pub mail : Output
  pub log : Output

abbrev pub sinks : Output → Output → Output → Sinks
sinks out mail log = record { out = out; mail = mail; log = log }

-- the input and the sinks
pub record Streams : Type 0 where
  pub input : Input
  pub sinks : Sinks

abbrev pub streams : Input → Sinks → Streams
streams input sinks = record { input = input; sinks = sinks }

-- all objects outside
pub record Objects : Type 0 where
  pub streams : Streams
  pub files : Tree

abbrev pub objects : Input → Output → Output → Output → Tree → Objects
objects input out mail log files = record { streams = streams input (sinks out mail log); files = files }

-- a text for the log alone, and one for the output alone
abbrev pub log_text : List ℕ → Texts
log_text line = record { out = []; mail = []; log = line }

abbrev pub out_text : List ℕ → Texts
out_text text = record { out = text; mail = []; log = [] }

-- texts, and then others
abbrev pub joined : Texts → Texts → Texts
joined first second = record { out = first.out ++ second.out; mail = first.mail ++ second.mail; log = first.log ++ second.log }

-- each sink took its text
abbrev pub appended : Sinks → Texts → Sinks
appended old texts = record { out = wrote old.out texts.out; mail = wrote old.mail texts.mail; log = wrote old.log texts.log }

-- the record took a prefix of its text, and nothing else was written
pub record InMail (old new : Sinks) (texts : Texts) : Type 0 where
  pub mail : HoldsPrefix old.mail new.mail texts.mail
  pub rest : new ≡ record old { mail = new.mail }

-- the record took its text, the log a prefix of its own, and the output nothing
pub record InLog (old new : Sinks) (texts : Texts) : Type 0 where
  pub log : HoldsPrefix old.log new.log texts.log
  pub rest : new ≡ record old { mail = wrote old.mail texts.mail; log = new.log }

-- the record and the log took their texts, and the output a prefix of its own
pub record InOut (old new : Sinks) (texts : Texts) : Type 0 where
  pub out : HoldsPrefix old.out new.out texts.out
  pub rest : new ≡ record { out = new.out; mail = wrote old.mail texts.mail; log = wrote old.log texts.log }

-- a fault broke the writing off: a prefix of each text was written, of a later sink's nothing, and the fault of a sink, for which there is a text, was
-- counted there
abbrev pub StopsBy : SinkFault → Sinks → Sinks → Texts → Type 0
StopsBy fault.Mail old new texts = (texts.mail ≢ []) × InMail (record old { mail = failed_output old.mail }) new texts
StopsBy fault.Log old new texts = (texts.log ≢ []) × InLog (record old { log = failed_output old.log }) new texts
StopsBy fault.Out old new texts = (texts.out ≢ []) × InOut (record old { out = failed_output old.out }) new texts
StopsBy fault.NoMemory old new texts = InMail old new texts ⊎ (InLog old new texts ⊎ InOut old new texts)

-- the answer of a write to the sink whose fault this is
abbrev pub blamed : {T : Type 0} → SinkFault → Result T OuterFault → Result T SinkFault
blamed failed (Ok x) = Ok x
blamed failed (Err outer.Failed) = Err failed
blamed failed (Err outer.NoMemory) = Err fault.NoMemory

-- texts were written whole, or a fault broke that off
abbrev pub Says : {T : Type 0} → Sinks → Sinks → Texts → Result T SinkFault → Type 0
Says old new texts result = MatchResult result (λ _. new ≡ appended old texts) (λ fault. StopsBy fault old new texts)

-- the status of a sink's fault, and of lack of memory
abbrev pub sink_status : SinkFault → ℕ
sink_status fault.Out = OUT_FAILED
sink_status fault.Mail = MAIL_FAILED
sink_status fault.Log = LOG_FAILED
sink_status fault.NoMemory = NO_MEMORY

-- the status of a run that says its last texts: this one, unless a fault breaks that off
abbrev pub status_of : {T : Type 0} → ℕ → Result T SinkFault → ℕ
status_of status (Ok x) = status
status_of status (Err fault) = sink_status fault
