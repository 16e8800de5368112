-- The course that a run of postmap can take, why, and what it leaves (postmap(1)). The statuses are postgate's own.
use Rattle.std.specs.Prelude.{◌≡◌, ◌⊎◌, ℕ, ◌++◌, Bool, true, false, List, Option, None, Some, Result, Ok, Err, ⊤, codes, is_some}
use Rattle.pf_base.specs.Outside.Known.{failed_tree, replaced}
use Rattle.pf_base.specs.Outside.Objects.{Objects, Says, Streams, log_text, out_text, sink_status, status_of}
use Rattle.pf_base.specs.Refusal.{refusal_line}
use Rattle.pf_base.specs.declared.pair.Pair.{Pair}
use Rattle.pf_base.specs.declared.refused.Refused.{Refused}
use Rattle.pf_base.specs.declared.outside.status.TheConstants.{AT_BUDGET, DONE, FILES_FAILED, INPUT_FAILED, NO_MEMORY, REFUSED, WARNED}
use Rattle.pf_base.specs.declared.outside.texts.SinkFault.{SinkFault}
use Rattle.pf_base.specs.declared.outside.texts.Texts.{Texts}
use Rattle.pf_maincf.specs.File.{Kept, failed_line}
use Rattle.pf_asks.specs.Clauses.Causes.{counted_if}
use Rattle.pf_asks.specs.Looking.{Meaning}
use Rattle.pf_maps.specs.Clauses.Opened.{is_of_size}
use Rattle.pf_maps.specs.Opening.{Unopened}
use Rattle.pf_maps.specs.Opening.{Unopened as unopened}
use Rattle.pf_tools.specs.Map.Built.{cdb_name}
use Rattle.pf_tools.specs.Map.Keys.{Answers}
use Rattle.pf_tools.specs.Map.Lines.{pair_lines, value_line}
use Rattle.pf_tools.specs.Map.Said.{Happening, Task, is_of, task_in}
use Rattle.pf_tools.specs.Map.Said.{Task as task}
use Rattle.pf_tools.specs.declared.map.build.Built.{Built}
use Rattle.pf_tools.specs.declared.map.keys.Ended.{Ended}
use Rattle.pf_tools.specs.declared.map.keys.Ended.TheVariants as ended
use Rattle.pf_tools.specs.declared.map.keys.KeysFault.{KeysFault}
use Rattle.pf_tools.specs.declared.map.keys.KeysFault.TheVariants as fault
use Rattle.pf_words.specs.declared.postmap.MapWords.{MapWords}

-- the files give this to do, where they are known, and it is what the words ask for
pub record IsTask (words : MapWords) (before : Objects) (t : Task) : Type 0 where
  pub known : (files : List Pair) → before.files.content ≡ Some files → task_in None words files ≡ Ok t
  pub asked : is_of words.job t ≡ true

-- what happened is named: the size of a pattern, or a file that was not read
abbrev pub names_happening : Unopened → Bool
names_happening (unopened.refuses refusal) = is_of_size refusal
names_happening (unopened.fails file) = true

-- there is nothing to do for this reason, where the files are known. Something happened that they do not say just if the reason names it.
pub record IsStopped (words : MapWords) (before : Objects) (why : Unopened) : Type 0 where
  pub happening : Happening
  pub known : (files : List Pair) → before.files.content ≡ Some files → task_in happening words files ≡ Err why
  pub named : is_some happening ≡ names_happening why

-- a run puts a cdb in its place and says its warnings, or the cdb can't be put there; it prints the value of a key, if it has one, answers the keys of
-- the input, prints pairs, says why a table is refused, or that a file can't be read; or it is out of memory before any of these, and in a build
-- perhaps after the cdb is in its place
pub data Course : Type 0 where
  builds : Built → Result ⊤ SinkFault → Course
  unreplaced : Built → Result ⊤ SinkFault → Course
  answers : Option (List ℕ) → Result ⊤ SinkFault → Course
  serves : Meaning → Result Ended KeysFault → Course
  lists : List Pair → Result ⊤ SinkFault → Course
  refuses : Refused → Result ⊤ SinkFault → Course
  unread : List ℕ → Result ⊤ SinkFault → Course
  starves : Course
  starves_building : Built → Course

-- a run says these texts, or that was broken off, and takes nothing
pub record SaysTexts (before now : Streams) (texts : Texts) (said : Result ⊤ SinkFault) : Type 0 where
  pub says : Says before.sinks now.sinks texts said
  pub input : now.input ≡ before.input

-- why a course is taken, and what it leaves; a call on the files failed just once where a file can't be read or a cdb can't be put in its place, and
-- else none; where it could not be put there it may be there all the same
abbrev pub Leaves : MapWords → Objects → Objects → Course → Type 0
Leaves words before now (builds built said) =
    IsTask words before (task.builds built) × Kept (replaced (cdb_name words.table) built.bytes before.files) now.files
    × SaysTexts before.streams now.streams (log_text built.warnings) said
Leaves words before now (unreplaced built said) =
    IsTask words before (task.builds built)
    × (Kept (failed_tree before.files) now.files ⊎ Kept (failed_tree (replaced (cdb_name words.table) built.bytes before.files)) now.files)
    × SaysTexts before.streams now.streams (log_text (built.warnings ++ failed_line (cdb_name words.table) (codes "replace"))) said
Leaves words before now (answers value said) =
    IsTask words before (task.answers value) × Kept before.files now.files × SaysTexts before.streams now.streams (out_text (value_line value)) said
Leaves words before now (serves meaning result) =
    IsTask words before (task.serves meaning) × Kept before.files now.files × Answers meaning words.budget before.streams now.streams result
Leaves words before now (lists pairs said) =
    IsTask words before (task.lists pairs) × Kept before.files now.files × SaysTexts before.streams now.streams (out_text (pair_lines pairs)) said
Leaves words before now (refuses refusal said) =
    IsStopped words before (unopened.refuses refusal) × Kept before.files now.files × SaysTexts before.streams now.streams (log_text (refusal_line refusal)) said
Leaves words before now (unread file said) =
    IsStopped words before (unopened.fails file) × Kept (failed_tree before.files) now.files
    × SaysTexts before.streams now.streams (log_text (failed_line file (codes "read"))) said
Leaves words before now starves = Kept before.files now.files × (now.streams ≡ before.streams)
Leaves words before now (starves_building built) =
    IsTask words before (task.builds built) × (Kept before.files now.files ⊎ Kept (replaced (cdb_name words.table) built.bytes before.files) now.files)
    × (now.streams ≡ before.streams)

-- the status of the value of a key: none is found, or one is
abbrev pub value_status : Option (List ℕ) → ℕ
value_status None = WARNED
value_status (Some value) = DONE

-- the status of keys that were answered: of an input that was read to its end, none had a value, or one had
abbrev pub ended_status : Ended → ℕ
ended_status (ended.AtEnd false) = WARNED
ended_status (ended.AtEnd true) = DONE
ended_status ended.AtBudget = AT_BUDGET

abbrev pub keys_status : Result Ended KeysFault → ℕ
keys_status (Ok how) = ended_status how
keys_status (Err fault.Input) = INPUT_FAILED
keys_status (Err (fault.Sink why)) = sink_status why

-- the status of a course
abbrev pub course_status : Course → ℕ
course_status (builds built said) = status_of DONE said
course_status (unreplaced built said) = status_of FILES_FAILED said
course_status (answers value said) = status_of (value_status value) said
course_status (serves meaning result) = keys_status result
course_status (lists pairs said) = status_of DONE said
course_status (refuses refusal said) = status_of REFUSED said
course_status (unread file said) = status_of FILES_FAILED said
course_status starves = NO_MEMORY
course_status (starves_building built) = NO_MEMORY

-- the count of patterns that were refused for their size: it rose by one where the refusal names that, and may have where memory ran out
abbrev pub Counts : ℕ → ℕ → Course → Type 0
Counts old new (refuses refusal said) = new ≡ counted_if (is_of_size refusal) old
Counts old new starves = (new ≡ old) ⊎ (new ≡ counted_if true old)
Counts old new other = new ≡ old

-- a run took a course
pub record Took (words : MapWords) (before now : Objects) (old new : ℕ) (status : ℕ) : Type 0 where
  pub course : Course
  pub status_is : status ≡ course_status course
  pub leaves : Leaves words before now course
  pub counts : Counts old new course
