-- What a run of smtpd leaves. The statuses are postgate's own, as are the lines that it says of itself.
use Rattle.std.specs.Prelude.{◌≡◌, ℕ, true, List, [], ◌∷◌, Some, Result, Ok, Err, ⊤, codes}
use Rattle.pf_base.specs.Outside.Objects.{Objects, Says, Streams, log_text, sink_status, status_of}
use Rattle.pf_base.specs.Refusal.{refusal_line}
use Rattle.pf_base.specs.Outside.Statuses.{HasCauses, NoneRose, counts_of, is_among}
use Rattle.pf_base.specs.Outside.Known.{failed_tree}
use Rattle.pf_base.specs.declared.pair.Pair.{Pair}
use Rattle.pf_base.specs.declared.refused.Refused.{Refused}
use Rattle.pf_base.specs.declared.outside.status.TheConstants.{AT_BUDGET, DONE, FILES_FAILED, INPUT_FAILED, LOG_FAILED, MAIL_FAILED, NO_MEMORY, OUT_FAILED, REFUSED}
use Rattle.pf_base.specs.declared.outside.texts.SinkFault.{SinkFault}
use Rattle.pf_maincf.specs.File.{Kept, bytes_in, conf_name, failed_line}
use Rattle.pf_top.specs.Opening.{setup_of}
use Rattle.pf_top.specs.Refusals.{file_opened}
use Rattle.pf_top.specs.SessionLoop.{HasSession}
use Rattle.pf_top.specs.declared.opening.Opening.{Opening}
use Rattle.pf_top.specs.declared.session_loop.Ended.{Ended}
use Rattle.pf_top.specs.declared.session_loop.Ended.TheVariants as ended
use Rattle.pf_top.specs.declared.session_loop.LoopFault.{LoopFault}
use Rattle.pf_top.specs.declared.session_loop.LoopFault.TheVariants as fault
use Rattle.pf_words.specs.declared.smtpd.SmtpdWords.{SmtpdWords}

-- what the main.cf of these words says, or its first refusal
abbrev pub opened_in : SmtpdWords → List Pair → Result Opening Refused
opened_in words files = file_opened (conf_name words.folder) (bytes_in files (conf_name words.folder))

-- where the files are known, main.cf says this
abbrev pub IsOpened : SmtpdWords → Objects → Result Opening Refused → Type 0
IsOpened words before answer = (files : List Pair) → before.files.content ≡ Some files → opened_in words files ≡ answer

-- a run has a session by what main.cf says, it says why main.cf is refused, or that it can't be read, or it is out of memory before any of these
pub data Course : Type 0 where
  serves : Opening → Result Ended LoopFault → Course
  refuses : Refused → Result ⊤ SinkFault → Course
  unread : Result ⊤ SinkFault → Course
  starves : Course

-- a run says this line of itself, takes nothing, and writes nothing else
pub record SaysLine (before now : Streams) (line : List ℕ) (said : Result ⊤ SinkFault) : Type 0 where
  pub says : Says before.sinks now.sinks (log_text line) said
  pub input : now.input ≡ before.input

-- why a course is taken, and what it leaves; a call on the files failed just once where main.cf can't be read, and else none
abbrev pub Leaves : SmtpdWords → Objects → Objects → Course → Type 0
Leaves words before now (serves opening result) =
    IsOpened words before (Ok opening) × Kept before.files now.files
    × HasSession (setup_of opening words.client) words.budget before.streams now.streams result
Leaves words before now (refuses refusal said) =
    IsOpened words before (Err refusal) × Kept before.files now.files
    × SaysLine before.streams now.streams (refusal_line refusal) said
Leaves words before now (unread said) =
    Kept (failed_tree before.files) now.files
    × SaysLine before.streams now.streams (failed_line (conf_name words.folder) (codes "read")) said
Leaves words before now starves = Kept before.files now.files × (now.streams ≡ before.streams)

-- the status of a session
abbrev pub ended_status : Ended → ℕ
ended_status ended.AtEnd = DONE
ended_status ended.AtOver = DONE
ended_status ended.AtBudget = AT_BUDGET

abbrev pub loop_status : Result Ended LoopFault → ℕ
loop_status (Ok how) = ended_status how
loop_status (Err fault.Input) = INPUT_FAILED
loop_status (Err (fault.Sink why)) = sink_status why

-- the status of a course
abbrev pub course_status : Course → ℕ
course_status (serves opening result) = loop_status result
course_status (refuses refusal said) = status_of REFUSED said
course_status (unread said) = status_of FILES_FAILED said
course_status starves = NO_MEMORY

-- the statuses of smtpd
abbrev pub statuses : List ℕ
statuses = DONE ∷ AT_BUDGET ∷ REFUSED ∷ INPUT_FAILED ∷ OUT_FAILED ∷ MAIL_FAILED ∷ LOG_FAILED ∷ FILES_FAILED ∷ NO_MEMORY ∷ []

-- its statuses by what main.cf says, where no call failed
abbrev pub statuses_by : Result Opening Refused → List ℕ
statuses_by (Ok opening) = DONE ∷ AT_BUDGET ∷ NO_MEMORY ∷ []
statuses_by (Err refusal) = REFUSED ∷ NO_MEMORY ∷ []

-- words of smtpd
pub record SmtpdRun (words : SmtpdWords) (before now : Objects) (status : ℕ) : Type 0 where
  pub course : Course
  pub status_is : status ≡ course_status course
  pub leaves : Leaves words before now course
  -- no verb of today gives a record line
  pub mail : now.streams.sinks.mail ≡ before.streams.sinks.mail
  -- which statuses there are, and why
  pub known : is_among statuses status ≡ true
  pub causes : HasCauses (counts_of before) (counts_of now) status
  pub complete : (files : List Pair) → before.files.content ≡ Some files → NoneRose (counts_of before) (counts_of now)
      → is_among (statuses_by (opened_in words files)) status ≡ true
