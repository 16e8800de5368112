-- The reports of courses.
use Rattle.std.proofs.Common.{◌≡◌, ℕ, List, Some, Result, Ok, Err, inl, inr, refl, ap, ◌∙◌}
use Rattle.std.specs.Option.{option_map}
use Rattle.std.specs.Prelude.{◌⊎◌, OnErr}
use Rattle.pf_base.specs.Outside.Counts.{counted}
use Rattle.pf_base.specs.Outside.FileList.{with_file}
use Rattle.pf_base.specs.Outside.Known.{Tree, failed_tree, replaced}
use Rattle.pf_base.specs.declared.pair.Pair.{Pair}
use Rattle.pf_base.specs.declared.refused.Refused.{Refused}
use Rattle.pf_maincf.specs.Clauses.Faults.{Answers}
use Rattle.pf_maincf.specs.File.{Kept, conf_name}
use Rattle.pf_maincf.specs.declared.file.FileFault.{FileFault}
use Rattle.pf_tools.specs.Course.{Leaves, Unfinished, said_in}
use Rattle.pf_tools.specs.Course.{Course as course}
use Rattle.pf_tools.specs.Clauses.Reports.{IsEditReport, Reports, report_of}
use Rattle.pf_maincf.specs.declared.file.FileFault.TheVariants as file_fault
use Rattle.pf_tools.specs.declared.report.Report.{Report}
use Rattle.pf_tools.specs.declared.said.Said.{Said}
use Rattle.pf_tools.specs.declared.said.Said.TheVariants as said
use Rattle.pf_words.specs.declared.postconf.ConfWords.{ConfWords}

-- the code's answer, where the files are known
abbrev pub Known : ConfWords → Tree → Result Said FileFault → Type 0
Known words before answer = (files : List Pair) → before.content ≡ Some files → Answers (said_in words files) answer

module _ (words : ConfWords) (before now : Tree) where
  pub prints_report : (lines warnings : List ℕ) (report : Report) → Known words before (Ok (said.Printed lines warnings)) → Kept before now
      → report ≡ report_of (conf_name words.folder) (course.prints lines warnings) → Reports words before now report
  prints_report lines warnings report known same is = record { courses = record { course = course.prints lines warnings; is = known; leaves = same }; report_is = is }

  pub refuses_report : (refusal : Refused) (report : Report) → Known words before (Err (file_fault.Refused refusal)) → Kept before now
      → report ≡ report_of (conf_name words.folder) (course.refuses refusal) → Reports words before now report
  refuses_report refusal report known same is = record { courses = record { course = course.refuses refusal; is = known; leaves = same }; report_is = is }

  pub unread_report : (report : Report) → Kept (failed_tree before) now → report ≡ report_of (conf_name words.folder) course.unread → Reports words before now report
  unread_report report same is = record { courses = record { course = course.unread; is = tt; leaves = same }; report_is = is }

  pub starved : Kept before now → Unfinished words before now
  starved kept = record { courses = record { course = course.starves; is = tt; leaves = kept }; undone = refl }

  pub starved_result : {T E : Type 0} (r : Result T E) → Kept before now → OnErr r (Unfinished words before now)
  starved_result (Ok x) kept = tt
  starved_result (Err e) kept = starved kept

  pub unread_short : {T E : Type 0} (r : Result T E) → Kept (failed_tree before) now → OnErr r (Unfinished words before now)
  unread_short (Ok x) kept = tt
  unread_short (Err e) kept = record { courses = record { course = course.unread; is = tt; leaves = kept }; undone = refl }

-- an edit: the file was read, and then its text was to be put in its place
over_kept : (a b c : Tree) → Kept a b → (g : Tree → Tree) → ((x y : Tree) → Kept x y → Kept (g x) (g y)) → Kept (g b) c → Kept (g a) c
over_kept a b c kept g keeps after = let mid = keeps a b kept in (after.0 ∙ mid.0, after.1 ∙ mid.1)

kept_replaced : (name bytes : List ℕ) (x y : Tree) → Kept x y → Kept (replaced name bytes x) (replaced name bytes y)
kept_replaced name bytes x y kept = (ap (λ c. option_map (λ files. with_file files name bytes) c) kept.0, kept.1)

kept_failed : (x y : Tree) → Kept x y → Kept (failed_tree x) (failed_tree y)
kept_failed x y kept = (kept.0, ap counted kept.1)

module _ (words : ConfWords) (before mid now : Tree) (text : List ℕ) (read : Kept before mid) (known : Known words before (Ok (said.Edited text))) where
  abbrev name : List ℕ
  name = conf_name words.folder

  replaced_behind : Leaves name (course.unreplaced text) mid now → Leaves name (course.unreplaced text) before now
  replaced_behind (inl left) = inl (over_kept before mid now read failed_tree kept_failed left)
  replaced_behind (inr left) = inr (over_kept before mid now read (λ t. failed_tree (replaced name text t)) (λ x y k. kept_failed (replaced name text x) (replaced name text y) (kept_replaced name text x y k)) left)

  starved_behind : Leaves name (course.starves_editing text) mid now → Leaves name (course.starves_editing text) before now
  starved_behind (inl left) = inl (over_kept before mid now read (λ t. t) (λ x y k. k) left)
  starved_behind (inr left) = inr (over_kept before mid now read (replaced name text) (kept_replaced name text) left)

  pub edit_report : (report : Report) → IsEditReport name text mid now report → Reports words before now report
  edit_report report (inl done) =
      record { courses = record { course = course.edits text; is = known; leaves = over_kept before mid now read (replaced name text) (kept_replaced name text) done.1 }; report_is = done.0 }
  edit_report report (inr refused) = record { courses = record { course = course.unreplaced text; is = known; leaves = replaced_behind refused.1 }; report_is = refused.0 }

  -- and the course where it was out of memory
  pub edit_short : Leaves name (course.unreplaced text) mid now ⊎ Leaves name (course.starves_editing text) mid now → Unfinished words before now
  edit_short (inl left) = record { courses = record { course = course.unreplaced text; is = known; leaves = replaced_behind left }; undone = refl }
  edit_short (inr left) = record { courses = record { course = course.starves_editing text; is = known; leaves = starved_behind left }; undone = refl }
