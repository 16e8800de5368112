-- A run by what was gathered and written.
use Rattle.std.proofs.Common.{◌≡◌, ℕ, true, false, [], Result, Err, refl, sym, ap, subst, ◌∙◌}
use Rattle.std.specs.Prelude.{IsOk, ⊤}
use Rattle.std.proofs.lemmas.Bool.{false≢true}
use Rattle.pf_base.proofs.StatusLemmas.{said_causes, starved_causes}
use Rattle.pf_base.proofs.KnownLemmas.{stops_first}
use Rattle.pf_base.specs.Outside.Objects.{Says, objects, sinks, status_of}
use Rattle.pf_base.specs.Outside.Statuses.{HasCauses, counts_of, is_among}
use Rattle.pf_base.specs.Outside.Known.{Input, Output, Tree}
use Rattle.pf_base.specs.declared.outside.status.TheConstants.{NO_MEMORY}
use Rattle.pf_base.specs.declared.outside.texts.SinkFault.{SinkFault}
use Rattle.pf_base.specs.declared.outside.texts.SinkFault.TheVariants as fault
use Rattle.pf_maincf.specs.File.{conf_name}
use Rattle.pf_tools.specs.Course.{Course, Unfinished, course_status, is_done, log_of, output_of, said_in, texts_of}
use Rattle.pf_tools.specs.Course.{Course as course}
use Rattle.pf_tools.specs.Clauses.Reports.{Reports}
use Rattle.pf_tools.proofs.StatusLaws.{completes, course_spoken, files_cause, memory_is_free, status_known}
use Rattle.pf_tools.specs.Run.{PostconfRun, statuses}
use Rattle.pf_tools.specs.declared.report.Report.{Report}
use Rattle.pf_words.specs.Postconf.{is_edit}
use Rattle.pf_words.specs.declared.postconf.ConfWords.{ConfWords}

-- an edit that is done says nothing
quiet : (file : _) (c : Course) → is_done c ≡ true → (output_of c ≡ []) × (log_of file c ≡ [])
quiet file (course.edits text) done = (refl, refl)
quiet file (course.prints lines warnings) done = cc
quiet file (course.refuses refusal) done = cc
quiet file course.unread done = cc
quiet file (course.unreplaced text) done = cc
quiet file course.starves done = cc
quiet file (course.starves_editing text) done = cc

module _ (words : ConfWords) (before now : Tree) (input : Input) (mail out log : Output) where
  -- what was gathered was written, or that was broken off
  pub runs : (out_now log_now : Output) (report : Report) (reports : Reports words before now report) (said : Result ⊤ SinkFault) (status : ℕ) → status ≡ status_of report.status said
      → Says (sinks out mail log) (sinks out_now mail log_now) report.texts said
      → (report.texts.out ≡ [] → out_now ≡ out) → (report.texts.out ≡ [] → report.texts.log ≡ [] → IsOk said)
      → (is_edit words.mode ≡ true → report.texts.out ≡ []) → (is_edit words.mode ≡ false → now.content ≡ before.content)
      → PostconfRun words (objects input out mail log before) (objects input out_now mail log_now now) status
  runs out_now log_now report reports said status status_is says no_output nothing edit same =
      let file = conf_name words.folder in
      let course = reports.courses.course in
      let old = objects input out mail log before in
      let new = objects input out_now mail log_now now in
      let texts = ap (λ (r : Report). r.texts) reports.report_is in
      let spoke = subst (λ t. Says (sinks out mail log) (sinks out_now mail log_now) t said) texts says in
      let is = status_is ∙ ap (λ (r : Report). status_of r.status said) reports.report_is in
      let causes = subst (HasCauses (counts_of old) (counts_of new)) (sym is)
      (said_causes old new (course_status course) said (texts_of file course) refl spoke (course_spoken course) (files_cause file course before now reports.courses.leaves)) in
      let out_is = ap (λ (t : Report). t.texts.out) reports.report_is in
      let log_is = ap (λ (t : Report). t.texts.log) reports.report_is in
      record {
        courses = reports.courses;
        said = said;
        says = spoke;
        status_is = is;
        through = λ done. let none = quiet file course done in nothing (out_is ∙ none.0) (log_is ∙ none.1);
        silent = λ none. no_output (out_is ∙ none);
        edit = λ is. no_output (edit is);
        kept = same;
        rest = (refl, refl);
        known = subst (λ s. is_among statuses s ≡ true) (sym is) (status_known file course (sinks out mail log) (sinks out_now mail log_now) said spoke);
        causes = causes;
        complete = λ files known none. completes words before.content (counts_of old) (counts_of new) status causes course reports.courses.is said is files known none;
      }

  -- it was out of memory before there was anything to write
  pub runs_short : Unfinished words before now → (is_edit words.mode ≡ false → now.content ≡ before.content)
      → PostconfRun words (objects input out mail log before) (objects input out mail log now) NO_MEMORY
  runs_short left same = record {
    courses = left.courses;
    said = Err fault.NoMemory;
    says = stops_first (sinks out mail log) (texts_of (conf_name words.folder) left.courses.course);
    status_is = refl;
    through = λ done. absurd (false≢true (sym left.undone ∙ done));
    silent = λ none. refl;
    edit = λ is. refl;
    kept = same;
    rest = (refl, refl);
    known = refl;
    causes = starved_causes _ _ refl refl refl refl (files_cause (conf_name words.folder) left.courses.course before now left.courses.leaves).once;
    complete = λ files known none. memory_is_free (said_in words files);
  }
