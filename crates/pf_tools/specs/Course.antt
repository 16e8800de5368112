-- The course that a run of postconf can take, what is written in it, and what it leaves of the files (postconf(1)). The statuses are postgate's own.
use Rattle.std.specs.Prelude.{◌≡◌, ◌⊎◌, ℕ, Bool, true, false, List, [], ◌∷◌, Option, Some, Result, Ok, Err, codes}
use Rattle.pf_base.specs.Refusal.{refusal_line}
use Rattle.pf_base.specs.Outside.Known.{Tree, failed_tree, replaced}
use Rattle.pf_base.specs.declared.pair.Pair.{Pair}
use Rattle.pf_base.specs.declared.refused.Refused.{Refused}
use Rattle.pf_base.specs.declared.outside.status.TheConstants.{DONE, FILES_FAILED, NO_MEMORY, REFUSED, WARNED}
use Rattle.pf_base.specs.declared.outside.texts.Texts.{Texts}
use Rattle.pf_maincf.specs.File.{Kept, bytes_in, conf_name, failed_line}
use Rattle.pf_tools.specs.Said.{file_said}
use Rattle.pf_tools.specs.declared.said.Said.{Said}
use Rattle.pf_tools.specs.declared.said.Said.TheVariants as said
use Rattle.pf_words.specs.declared.postconf.ConfWords.{ConfWords}

-- what is said of main.cf, where the files are known
abbrev pub said_in : ConfWords → List Pair → Result Said Refused
said_in words files = file_said (conf_name words.folder) words (bytes_in files (conf_name words.folder))

-- a run prints lines and warnings, puts an edited text in the place of the file, or says why the file is refused; or the file can't be read, or
-- the edited text can't be put in its place; or it is out of memory before there is a text to write, and in an edit perhaps after that
pub data Course : Type 0 where
  prints : List ℕ → List ℕ → Course
  edits : List ℕ → Course
  refuses : Refused → Course
  unread : Course
  unreplaced : List ℕ → Course
  starves : Course
  starves_editing : List ℕ → Course

-- where the files are known, this is what is said of main.cf
abbrev pub IsSaid : ConfWords → Option (List Pair) → Result Said Refused → Type 0
IsSaid words content answer = (files : List Pair) → content ≡ Some files → said_in words files ≡ answer

-- a course comes from what is said
abbrev pub IsCourse : ConfWords → Option (List Pair) → Course → Type 0
IsCourse words content (prints lines warnings) = IsSaid words content (Ok (said.Printed lines warnings))
IsCourse words content (edits text) = IsSaid words content (Ok (said.Edited text))
IsCourse words content (refuses refusal) = IsSaid words content (Err refusal)
IsCourse words content unread = Unit {0}
IsCourse words content (unreplaced text) = IsSaid words content (Ok (said.Edited text))
IsCourse words content starves = Unit {0}
IsCourse words content (starves_editing text) = IsSaid words content (Ok (said.Edited text))

-- the output
abbrev pub output_of : Course → List ℕ
output_of (prints lines warnings) = lines
output_of other = []

-- the log
abbrev pub log_of : List ℕ → Course → List ℕ
log_of file (prints lines warnings) = warnings
log_of file (edits text) = []
log_of file (refuses refusal) = refusal_line refusal
log_of file unread = failed_line file (codes "read")
log_of file (unreplaced text) = failed_line file (codes "replace")
log_of file starves = []
log_of file (starves_editing text) = []

-- both
abbrev pub texts_of : List ℕ → Course → Texts
texts_of file course = record { out = output_of course; mail = []; log = log_of file course }

-- the status of lines that are printed without a warning, or with one
abbrev pub printed_status : List ℕ → ℕ
printed_status [] = DONE
printed_status (b ∷ warnings) = WARNED

-- the status of a course
abbrev pub course_status : Course → ℕ
course_status (prints lines warnings) = printed_status warnings
course_status (edits text) = DONE
course_status (refuses refusal) = REFUSED
course_status unread = FILES_FAILED
course_status (unreplaced text) = FILES_FAILED
course_status starves = NO_MEMORY
course_status (starves_editing text) = NO_MEMORY

-- what a course leaves of the files, and why it is taken: a call on them failed just once where the file can't be read or the text can't be put in its
-- place, and else none; where it could not be put there it may be there all the same
abbrev pub Leaves : List ℕ → Course → Tree → Tree → Type 0
Leaves file (prints lines warnings) before now = Kept before now
Leaves file (edits text) before now = Kept (replaced file text before) now
Leaves file (refuses refusal) before now = Kept before now
Leaves file unread before now = Kept (failed_tree before) now
Leaves file (unreplaced text) before now = Kept (failed_tree before) now ⊎ Kept (failed_tree (replaced file text before)) now
Leaves file starves before now = Kept before now
Leaves file (starves_editing text) before now = Kept before now ⊎ Kept (replaced file text before) now

-- the course of a run over the files
pub record Courses (words : ConfWords) (before now : Tree) : Type 0 where
  pub course : Course
  pub is : IsCourse words before.content course
  pub leaves : Leaves (conf_name words.folder) course before now

-- an edited text is in the place of the file
abbrev pub is_done : Course → Bool
is_done (edits text) = true
is_done other = false

-- a course that did not come to its end: the text of an edit is not in the place of the file, or may not
pub record Unfinished (words : ConfWords) (before now : Tree) : Type 0 where
  pub courses : Courses words before now
  pub undone : is_done courses.course ≡ false
