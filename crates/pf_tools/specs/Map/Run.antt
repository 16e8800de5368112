-- What a run of postmap leaves. The statuses are postgate's own.
use Rattle.std.specs.Prelude.{◌≡◌, ◌≢◌, ℕ, List, [], ◌∷◌, None, Some, true, Result, Ok, Err}
use Rattle.pf_base.specs.Outside.Objects.{Objects}
use Rattle.pf_base.specs.Outside.Statuses.{HasCauses, NoneRose, counts_of, is_among}
use Rattle.pf_base.specs.declared.pair.Pair.{Pair}
use Rattle.pf_base.specs.declared.outside.status.TheConstants.{AT_BUDGET, DONE, FILES_FAILED, INPUT_FAILED, LOG_FAILED, NO_MEMORY, OUT_FAILED, REFUSED, WARNED}
use Rattle.pf_asks.specs.Clauses.Causes.{counted_if}
use Rattle.pf_maps.specs.Opening.{Unopened}
use Rattle.pf_maps.specs.Opening.{Unopened as unopened}
use Rattle.pf_tools.specs.Map.Course.{Took, value_status}
use Rattle.pf_tools.specs.Map.Said.{Task, task_in}
use Rattle.pf_tools.specs.Map.Said.{Task as task}
use Rattle.pf_words.specs.declared.postmap.MapWords.{MapWords}

-- the statuses of postmap
abbrev pub statuses : List ℕ
statuses = DONE ∷ WARNED ∷ REFUSED ∷ INPUT_FAILED ∷ OUT_FAILED ∷ LOG_FAILED ∷ FILES_FAILED ∷ NO_MEMORY ∷ AT_BUDGET ∷ []

-- its statuses by what there is to do, where no call failed
abbrev pub statuses_by : Result Task Unopened → List ℕ
statuses_by (Ok (task.builds built)) = DONE ∷ NO_MEMORY ∷ []
statuses_by (Ok (task.answers value)) = value_status value ∷ NO_MEMORY ∷ []
statuses_by (Ok (task.serves meaning)) = DONE ∷ WARNED ∷ AT_BUDGET ∷ NO_MEMORY ∷ []
statuses_by (Ok (task.lists pairs)) = DONE ∷ NO_MEMORY ∷ []
statuses_by (Err (unopened.refuses refusal)) = REFUSED ∷ NO_MEMORY ∷ []
statuses_by (Err (unopened.fails file)) = FILES_FAILED ∷ NO_MEMORY ∷ []

-- words of postmap: the run took a course. The counts old and new are those of patterns that were refused for their size.
pub record PostmapRun (words : MapWords) (before now : Objects) (old new : ℕ) (status : ℕ) : Type 0 where
  pub took : Took words before now old new status
  pub mail : now.streams.sinks.mail ≡ before.streams.sinks.mail
  -- which statuses there are, and why
  pub known : is_among statuses status ≡ true
  pub causes : HasCauses (counts_of before) (counts_of now) status
  pub complete : (files : List Pair) → before.files.content ≡ Some files → NoneRose (counts_of before) (counts_of now)
      → new ≢ counted_if true old → is_among (statuses_by (task_in None words files)) status ≡ true
