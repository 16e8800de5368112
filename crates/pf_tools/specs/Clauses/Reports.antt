-- What the code gathers before it writes. Words of the code's contracts.
use Rattle.std.specs.Prelude.{◌≡◌, ◌⊎◌, ℕ, List}
use Rattle.pf_base.specs.Outside.Known.{Tree}
use Rattle.pf_maincf.specs.File.{conf_name}
use Rattle.pf_tools.specs.Course.{Course, Courses, Leaves, course_status, texts_of}
use Rattle.pf_tools.specs.Course.{Course as course}
use Rattle.pf_tools.specs.declared.report.Report.{Report}
use Rattle.pf_words.specs.declared.postconf.ConfWords.{ConfWords}

-- what is to be written in a course
abbrev pub report_of : List ℕ → Course → Report
report_of file course = record { texts = texts_of file course; status = course_status course }

-- a report is that of a course over the files
pub record Reports (words : ConfWords) (before now : Tree) (report : Report) : Type 0 where
  pub courses : Courses words before now
  pub report_is : report ≡ report_of (conf_name words.folder) courses.course

-- a report is that of an edited text, which is in the place of the file or could not be put there
abbrev pub IsEditReport : List ℕ → List ℕ → Tree → Tree → Report → Type 0
IsEditReport file text before now report =
    ((report ≡ report_of file (course.edits text)) × Leaves file (course.edits text) before now)
    ⊎ ((report ≡ report_of file (course.unreplaced text)) × Leaves file (course.unreplaced text) before now)
