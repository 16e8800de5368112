-- What a run of postconf leaves. The statuses are postgate's own.
use Rattle.std.specs.Prelude.{◌≡◌, ℕ, List, [], ◌∷◌, Some, true, false, Result, Ok, Err, IsOk, ⊤}
use Rattle.pf_base.specs.Outside.Objects.{Objects, Says, status_of}
use Rattle.pf_base.specs.Outside.Statuses.{HasCauses, NoneRose, counts_of, is_among}
use Rattle.pf_base.specs.declared.pair.Pair.{Pair}
use Rattle.pf_base.specs.declared.refused.Refused.{Refused}
use Rattle.pf_base.specs.declared.outside.status.TheConstants.{DONE, FILES_FAILED, LOG_FAILED, NO_MEMORY, OUT_FAILED, REFUSED, WARNED}
use Rattle.pf_base.specs.declared.outside.texts.SinkFault.{SinkFault}
use Rattle.pf_maincf.specs.File.{conf_name}
use Rattle.pf_tools.specs.Course.{Courses, course_status, is_done, output_of, printed_status, said_in, texts_of}
use Rattle.pf_tools.specs.declared.said.Said.{Said}
use Rattle.pf_tools.specs.declared.said.Said.TheVariants as said
use Rattle.pf_words.specs.Postconf.{is_edit}
use Rattle.pf_words.specs.declared.postconf.ConfWords.{ConfWords}

-- the statuses of postconf
abbrev pub statuses : List ℕ
statuses = DONE ∷ WARNED ∷ REFUSED ∷ OUT_FAILED ∷ LOG_FAILED ∷ FILES_FAILED ∷ NO_MEMORY ∷ []

-- its statuses by what is said of main.cf, where no call failed
abbrev pub statuses_by : Result Said Refused → List ℕ
statuses_by (Ok (said.Printed lines warnings)) = printed_status warnings ∷ NO_MEMORY ∷ []
statuses_by (Ok (said.Edited text)) = DONE ∷ NO_MEMORY ∷ []
statuses_by (Err refusal) = REFUSED ∷ NO_MEMORY ∷ []

-- words of postconf: the run took a course over the files, and wrote what that has to say, or a sink's fault or lack of memory broke the writing
-- off; an edit that is in the place of the file says nothing. The status is that of the course, or of what broke the writing off
pub record PostconfRun (words : ConfWords) (before now : Objects) (status : ℕ) : Type 0 where
  pub courses : Courses words before.files now.files
  pub said : Result ⊤ SinkFault
  pub says : Says before.streams.sinks now.streams.sinks (texts_of (conf_name words.folder) courses.course) said
  pub status_is : status ≡ status_of (course_status courses.course) said
  pub through : is_done courses.course ≡ true → IsOk said
  -- what stays
  pub silent : output_of courses.course ≡ [] → now.streams.sinks.out ≡ before.streams.sinks.out
  pub edit : is_edit words.mode ≡ true → now.streams.sinks.out ≡ before.streams.sinks.out
  pub kept : is_edit words.mode ≡ false → now.files.content ≡ before.files.content
  pub rest : (now.streams.input ≡ before.streams.input) × (now.streams.sinks.mail ≡ before.streams.sinks.mail)
  -- and which statuses there are, and why
  pub known : is_among statuses status ≡ true
  pub causes : HasCauses (counts_of before) (counts_of now) status
  pub complete : (files : List Pair) → before.files.content ≡ Some files → NoneRose (counts_of before) (counts_of now)
      → is_among (statuses_by (said_in words files)) status ≡ true
