-- The status of a run of postconf by its course.
use Rattle.std.proofs.Common.{◌≡◌, ℕ, true, List, [], ◌∷◌, Option, Some, Result, Ok, Err, inl, inr, refl}
use Rattle.std.specs.Prelude.{⊤}
use Rattle.pf_base.proofs.StatusLemmas.{FilesCause, none_stopped, spoken}
use Rattle.pf_base.specs.Outside.Objects.{Says, Sinks, status_of}
use Rattle.pf_base.specs.Outside.Statuses.{Counts, HasCauses, NoneRose, is_among}
use Rattle.pf_base.specs.Outside.Known.{Tree}
use Rattle.pf_base.specs.declared.pair.Pair.{Pair}
use Rattle.pf_base.specs.declared.refused.Refused.{Refused}
use Rattle.pf_base.specs.declared.outside.status.TheConstants.{DONE, FILES_FAILED, NO_MEMORY, WARNED}
use Rattle.pf_base.specs.declared.outside.texts.SinkFault.{SinkFault}
use Rattle.pf_base.specs.declared.outside.texts.SinkFault.TheVariants as fault
use Rattle.pf_tools.specs.Course.{Course, IsCourse, Leaves, course_status, printed_status, said_in, texts_of}
use Rattle.pf_tools.specs.Course.{Course as course}
use Rattle.pf_tools.specs.Run.{statuses, statuses_by}
use Rattle.pf_tools.specs.declared.said.Said.{Said}
use Rattle.pf_tools.specs.declared.said.Said.TheVariants as said
use Rattle.pf_words.specs.declared.postconf.ConfWords.{ConfWords}

-- the status of lines that are printed is one of two
by_warnings : (P : ℕ → Type 0) → P DONE → P WARNED → (warnings : List ℕ) → P (printed_status warnings)
by_warnings P none some [] = none
by_warnings P none some (b ∷ warnings) = some

pub course_spoken : (c : Course) → is_among spoken (course_status c) ≡ true
course_spoken (course.prints lines warnings) = by_warnings (λ s. is_among spoken s ≡ true) refl refl warnings
course_spoken (course.edits text) = refl
course_spoken (course.refuses refusal) = refl
course_spoken course.unread = refl
course_spoken (course.unreplaced text) = refl
course_spoken course.starves = refl
course_spoken (course.starves_editing text) = refl

course_known : (c : Course) → is_among statuses (course_status c) ≡ true
course_known (course.prints lines warnings) = by_warnings (λ s. is_among statuses s ≡ true) refl refl warnings
course_known (course.edits text) = refl
course_known (course.refuses refusal) = refl
course_known course.unread = refl
course_known (course.unreplaced text) = refl
course_known course.starves = refl
course_known (course.starves_editing text) = refl

-- the status of a run is one of postconf's: there is no text for the record of messages
pub status_known : (file : List ℕ) (c : Course) (old new : Sinks) (said : Result ⊤ SinkFault) → Says old new (texts_of file c) said
    → is_among statuses (status_of (course_status c) said) ≡ true
status_known file c old new (Ok x) says = course_known c
status_known file c old new (Err fault.Out) says = refl
status_known file c old new (Err fault.Mail) says = absurd (says.0 refl)
status_known file c old new (Err fault.Log) says = refl
status_known file c old new (Err fault.NoMemory) says = refl

-- what the status of a course says of the files
pub files_cause : (file : List ℕ) (c : Course) (before now : Tree) → Leaves file c before now → FilesCause before now (course_status c)
files_cause file (course.prints lines warnings) before now left =
    record { once = inl left.1; failed = λ is. absurd (by_warnings (λ s. s ≡ FILES_FAILED → ⊥) (λ e. cc) (λ e. cc) warnings is); kept = λ is. left.1 }
files_cause file (course.edits text) before now left = record { once = inl left.1; failed = λ is. cc; kept = λ is. left.1 }
files_cause file (course.refuses refusal) before now left = record { once = inl left.1; failed = λ is. cc; kept = λ is. left.1 }
files_cause file course.unread before now left = record { once = inr left.1; failed = λ is. left.1; kept = λ is. cc }
files_cause file (course.unreplaced text) before now (inl left) = record { once = inr left.1; failed = λ is. left.1; kept = λ is. cc }
files_cause file (course.unreplaced text) before now (inr left) = record { once = inr left.1; failed = λ is. left.1; kept = λ is. cc }
files_cause file course.starves before now left = record { once = inl left.1; failed = λ is. cc; kept = λ is. left.1 }
files_cause file (course.starves_editing text) before now (inl left) = record { once = inl left.1; failed = λ is. cc; kept = λ is. cc }
files_cause file (course.starves_editing text) before now (inr left) = record { once = inl left.1; failed = λ is. cc; kept = λ is. cc }

-- memory may be wanting whatever is said
pub memory_is_free : (answer : Result Said Refused) → is_among (statuses_by answer) NO_MEMORY ≡ true
memory_is_free (Ok (said.Printed lines warnings)) = by_warnings (λ s. is_among (s ∷ NO_MEMORY ∷ []) NO_MEMORY ≡ true) refl refl warnings
memory_is_free (Ok (said.Edited text)) = refl
memory_is_free (Err refusal) = refl

-- where no call failed, the status is that of what is said
module _ (words : ConfWords) (content : Option (List Pair)) (before now : Counts) (status : ℕ) (causes : HasCauses before now status) where
  pub completes : (c : Course) → IsCourse words content c → (last : Result ⊤ SinkFault) → status ≡ status_of (course_status c) last
      → (files : List Pair) → content ≡ Some files → NoneRose before now → is_among (statuses_by (said_in words files)) status ≡ true
  completes c is (Err why) status_is files known none = rw (none_stopped why status_is causes none) (memory_is_free (said_in words files))
  completes (course.prints lines warnings) is (Ok x) status_is files known none =
      rw (status_is, is files known) (by_warnings (λ s. is_among (s ∷ NO_MEMORY ∷ []) s ≡ true) refl refl warnings)
  completes (course.edits text) is (Ok x) status_is files known none = rw (status_is, is files known) refl
  completes (course.refuses refusal) is (Ok x) status_is files known none = rw (status_is, is files known) refl
  completes course.unread is (Ok x) status_is files known none = absurd (none.files (causes.files status_is))
  completes (course.unreplaced text) is (Ok x) status_is files known none = absurd (none.files (causes.files status_is))
  completes course.starves is (Ok x) status_is files known none = rw status_is (memory_is_free (said_in words files))
  completes (course.starves_editing text) is (Ok x) status_is files known none = rw status_is (memory_is_free (said_in words files))
