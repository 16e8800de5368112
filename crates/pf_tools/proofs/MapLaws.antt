-- A run of postmap by its course.
use Rattle.std.proofs.Common.{◌≡◌, ℕ, Bool, true, false, List, [], ◌∷◌, Option, None, Some, Result, Ok, Err, inl, inr, refl, sym, ap, subst, ◌∙◌}
use Rattle.std.specs.Option.{option_map}
use Rattle.std.specs.Prelude.{⊤, ◌⊎◌, ◌≢◌, ◌||◌, is_some, slice_get}
use Rattle.pf_base.proofs.KnownLemmas.{wrote_none}
use Rattle.pf_base.proofs.StatusLemmas.{counts_same, kept_causes, none_failed, none_stopped, said_causes, said_record, spoken, starved_causes, stops_causes, stops_record}
use Rattle.pf_base.specs.Outside.Counts.{counted}
use Rattle.pf_base.specs.Outside.FileList.{with_file}
use Rattle.pf_base.specs.Outside.Known.{Tree, failed_tree, replaced}
use Rattle.pf_base.specs.Outside.Objects.{Objects, Says, Sinks, StopsBy, Streams, log_text, out_text, sink_status, status_of}
use Rattle.pf_base.specs.Outside.Statuses.{HasCauses, NoneRose, counts_of, is_among}
use Rattle.pf_base.specs.Results.{◌>>=◌}
use Rattle.pf_base.specs.declared.pair.Pair.{Pair}
use Rattle.pf_base.specs.declared.refused.Refused.{Refused}
use Rattle.pf_base.specs.declared.outside.status.TheConstants.{AT_BUDGET, DONE, FILES_FAILED, NO_MEMORY, REFUSED, WARNED}
use Rattle.pf_base.specs.declared.outside.texts.SinkFault.{SinkFault}
use Rattle.pf_base.specs.declared.outside.texts.SinkFault.TheVariants as sink
use Rattle.pf_base.specs.declared.outside.texts.Texts.{Texts}
use Rattle.pf_asks.specs.Clauses.Causes.{counted_if}
use Rattle.pf_asks.specs.Looking.{Meaning}
use Rattle.pf_maincf.specs.File.{Kept}
use Rattle.pf_maps.proofs.TurnLaws.{small_counts}
use Rattle.pf_maps.specs.Clauses.Opened.{Opens, OpensWith, is_of_size, names_event, names_size}
use Rattle.pf_maps.specs.Clauses.Seen.{OpenTables, listed, meaning_in, opened}
use Rattle.pf_maps.specs.Opening.{Unopened}
use Rattle.pf_maps.specs.Opening.{Unopened as unopened}
use Rattle.pf_maps.specs.declared.node.Node.{Node}
use Rattle.pf_maps.specs.declared.opening.OpenFault.{OpenFault}
use Rattle.pf_maps.specs.declared.opening.OpenFault.TheVariants as open_fault
use Rattle.pf_table.specs.declared.pairs.Repeats.{Repeats}
use Rattle.pf_tools.specs.Clauses.Opened.{Ends, IsPut, SaysUnopened, value_in}
use Rattle.pf_tools.specs.Map.Built.{built_in, cdb_name}
use Rattle.pf_tools.specs.Map.Course.{Counts, Course, IsStopped, IsTask, Leaves, Took, course_status, ended_status, keys_status, names_happening, value_status}
use Rattle.pf_tools.specs.Map.Course.{Course as course}
use Rattle.pf_tools.specs.Map.Keys.{Answers, answered, keys_of, whole_keys}
use Rattle.pf_tools.specs.Map.Lines.{pair_lines, value_at, value_line}
use Rattle.pf_tools.specs.Map.Run.{PostmapRun, statuses, statuses_by}
use Rattle.pf_tools.specs.Map.Said.{Happening, Task, is_of, is_unread, read_at_first, table_in, tables_in, task_by, task_in}
use Rattle.pf_tools.specs.Map.Said.{Task as task}
use Rattle.pf_tools.specs.declared.map.build.Built.{Built}
use Rattle.pf_tools.specs.declared.map.keys.Ended.{Ended}
use Rattle.pf_tools.specs.declared.map.keys.Ended.TheVariants as ended
use Rattle.pf_tools.specs.declared.map.keys.KeysFault.{KeysFault}
use Rattle.pf_tools.specs.declared.map.keys.KeysFault.TheVariants as fault
use Rattle.pf_words.specs.declared.postmap.MapJob.{MapJob}
use Rattle.pf_words.specs.declared.postmap.MapJob.TheVariants as job
use Rattle.pf_words.specs.declared.postmap.MapWords.{MapWords}

-- nothing happened
none_of : {A : Type 0} (o : Option A) → is_some o ≡ false → o ≡ None
none_of None is = refl
none_of (Some x) is = cc

or_false : (b : Bool) → (b || false) ≡ b
or_false true = refl
or_false false = refl

none_counted : (b : Bool) (old new : ℕ) → new ≡ counted_if b old → new ≢ counted_if true old → b ≡ false
none_counted true old new counts none = absurd (none counts)
none_counted false old new counts none = refl

-- the status of keys that were answered is one of three
by_ended : (P : ℕ → Type 0) → P DONE → P WARNED → P AT_BUDGET → (how : Ended) → P (ended_status how)
by_ended P done warned budget (ended.AtEnd false) = warned
by_ended P done warned budget (ended.AtEnd true) = done
by_ended P done warned budget ended.AtBudget = budget

-- the status of a value is one of two
by_value : (P : ℕ → Type 0) → P DONE → P WARNED → (value : Option (List ℕ)) → P (value_status value)
by_value P done warned None = warned
by_value P done warned (Some value) = done

-- nothing is for the record of messages
module _ (m : Meaning) where
  answered_record : (keys : List (List ℕ)) (sinks : Sinks) → (answered m keys sinks).mail ≡ sinks.mail
  answered_record keys sinks = wrote_none sinks.mail

  keys_record : (budget : ℕ) (before now : Streams) (result : Result Ended KeysFault) → Answers m budget before now result → now.sinks.mail ≡ before.sinks.mail
  keys_record budget before now (Ok (ended.AtEnd found)) t = ap (λ s. s.mail) t.sinks ∙ answered_record (keys_of t.taken) before.sinks
  keys_record budget before now (Ok ended.AtBudget) t = ap (λ s. s.mail) t.sinks ∙ answered_record (whole_keys t.taken) before.sinks
  keys_record budget before now (Err fault.Input) t = ap (λ s. s.mail) t.sinks ∙ answered_record (whole_keys t.taken) before.sinks
  keys_record budget before now (Err (fault.Sink why)) (inl t) =
      stops_record (answered m (whole_keys t.earlier) before.sinks) now.sinks (out_text t.text) why refl t.stops ∙ answered_record (whole_keys t.earlier) before.sinks
  keys_record budget before now (Err (fault.Sink why)) (inr t) =
      stops_record (answered m (whole_keys t.taken) before.sinks) now.sinks (out_text _) why refl t.stops ∙ answered_record (whole_keys t.taken) before.sinks

  -- the counts after keys that were answered
  keys_counts : (before now : Objects) (keys : List (List ℕ)) → now.streams.input.faults ≡ before.streams.input.faults
      → now.streams.sinks ≡ answered m keys before.streams.sinks → now.files.faults ≡ before.files.faults → counts_of now ≡ counts_of before
  keys_counts before now keys input sinks files =
      counts_same input (ap (λ s. s.out.faults) sinks) (ap (λ s. s.mail.faults) sinks) (ap (λ s. s.log.faults) sinks) files

  keys_causes : (budget : ℕ) (before now : Objects) (result : Result Ended KeysFault) → Answers m budget before.streams now.streams result → now.files.faults ≡ before.files.faults
      → HasCauses (counts_of before) (counts_of now) (keys_status result)
  keys_causes budget before now (Ok (ended.AtEnd found)) t files =
      let same = keys_counts before now (keys_of t.taken) (ap (λ i. i.faults) t.end ∙ t.input.faults) t.sinks files in
      by_ended (HasCauses (counts_of before) (counts_of now)) (kept_causes _ _ DONE same refl) (kept_causes _ _ WARNED same refl) (kept_causes _ _ AT_BUDGET same refl) (ended.AtEnd found)
  keys_causes budget before now (Ok ended.AtBudget) t files =
      kept_causes _ _ AT_BUDGET (keys_counts before now (whole_keys t.taken) t.input.faults t.sinks files) refl
  keys_causes budget before now (Err fault.Input) t files = record {
    input = ap (λ i. i.faults) t.broken ∙ ap counted t.input.faults;
    out = ap (λ s. s.out.faults) t.sinks;
    mail = ap (λ s. s.mail.faults) t.sinks;
    log = ap (λ s. s.log.faults) t.sinks;
    once = inl files;
    files = λ is. cc;
    kept = λ is. cc;
  }
  keys_causes budget before now (Err (fault.Sink why)) (inl t) files =
      stops_causes (record before { streams = record before.streams { sinks = answered m (whole_keys t.earlier) before.streams.sinks } }) now why (out_text t.text) t.stops
      t.input.faults (inl files)
  keys_causes budget before now (Err (fault.Sink why)) (inr t) files =
      stops_causes (record before { streams = record before.streams { sinks = answered m (whole_keys t.taken) before.streams.sinks } }) now why (out_text _) t.stops
      (ap (λ i. i.faults) t.end ∙ t.input.faults) (inl files)

-- a fault of a sink that has a text is none of the record
stops_known : (why : SinkFault) (before now : Sinks) (texts : Texts) → texts.mail ≡ [] → StopsBy why before now texts → is_among statuses (sink_status why) ≡ true
stops_known sink.Out before now texts none stops = refl
stops_known sink.Mail before now texts none stops = absurd (stops.0 none)
stops_known sink.Log before now texts none stops = refl
stops_known sink.NoMemory before now texts none stops = refl

said_known : (status : ℕ) (said : Result ⊤ SinkFault) (before now : Sinks) (texts : Texts) → texts.mail ≡ [] → Says before now texts said
    → is_among statuses status ≡ true → is_among statuses (status_of status said) ≡ true
said_known status (Ok x) before now texts none says own = own
said_known status (Err why) before now texts none says own = stops_known why before now texts none says

keys_known : (m : Meaning) (budget : ℕ) (before now : Streams) (result : Result Ended KeysFault) → Answers m budget before now result → is_among statuses (keys_status result) ≡ true
keys_known m budget before now (Ok how) t = by_ended (λ s. is_among statuses s ≡ true) refl refl refl how
keys_known m budget before now (Err fault.Input) t = refl
keys_known m budget before now (Err (fault.Sink why)) (inl t) = stops_known why _ now.sinks (out_text t.text) refl t.stops
keys_known m budget before now (Err (fault.Sink why)) (inr t) = stops_known why _ now.sinks (out_text _) refl t.stops

-- memory may be wanting whatever there is to do
memory_is_free : (answer : Result Task Unopened) → is_among (statuses_by answer) NO_MEMORY ≡ true
memory_is_free (Ok (task.builds built)) = refl
memory_is_free (Ok (task.answers value)) = by_value (λ s. is_among (s ∷ NO_MEMORY ∷ []) NO_MEMORY ≡ true) refl refl value
memory_is_free (Ok (task.serves meaning)) = refl
memory_is_free (Ok (task.lists pairs)) = refl
memory_is_free (Err (unopened.refuses refusal)) = refl
memory_is_free (Err (unopened.fails file)) = refl

module _ (words : MapWords) (before now : Objects) where
  course_record : (c : Course) → Leaves words before now c → now.streams.sinks.mail ≡ before.streams.sinks.mail
  course_record (course.builds built said) left = said_record before.streams.sinks now.streams.sinks (log_text _) said refl left.2.says
  course_record (course.unreplaced built said) left = said_record before.streams.sinks now.streams.sinks (log_text _) said refl left.2.says
  course_record (course.answers value said) left = said_record before.streams.sinks now.streams.sinks (out_text _) said refl left.2.says
  course_record (course.serves meaning result) left = keys_record meaning words.budget before.streams now.streams result left.2
  course_record (course.lists pairs said) left = said_record before.streams.sinks now.streams.sinks (out_text _) said refl left.2.says
  course_record (course.refuses refusal said) left = said_record before.streams.sinks now.streams.sinks (log_text _) said refl left.2.says
  course_record (course.unread file said) left = said_record before.streams.sinks now.streams.sinks (log_text _) said refl left.2.says
  course_record course.starves left = ap (λ s. s.sinks.mail) left.1
  course_record (course.starves_building built) left = ap (λ s. s.sinks.mail) left.2

  course_known : (c : Course) → Leaves words before now c → is_among statuses (course_status c) ≡ true
  course_known (course.builds built said) left = said_known DONE said _ _ (log_text _) refl left.2.says refl
  course_known (course.unreplaced built said) left = said_known FILES_FAILED said _ _ (log_text _) refl left.2.says refl
  course_known (course.answers value said) left =
      said_known (value_status value) said _ _ (out_text _) refl left.2.says (by_value (λ s. is_among statuses s ≡ true) refl refl value)
  course_known (course.serves meaning result) left = keys_known meaning words.budget before.streams now.streams result left.2
  course_known (course.lists pairs said) left = said_known DONE said _ _ (out_text _) refl left.2.says refl
  course_known (course.refuses refusal said) left = said_known REFUSED said _ _ (log_text _) refl left.2.says refl
  course_known (course.unread file said) left = said_known FILES_FAILED said _ _ (log_text _) refl left.2.says refl
  course_known course.starves left = refl
  course_known (course.starves_building built) left = refl

  -- where a cdb could not be put in its place, a call on the files failed just once
  failed_once : (built : Tree) → Kept (failed_tree before.files) now.files ⊎ Kept (failed_tree built) now.files → built.faults ≡ before.files.faults
      → now.files.faults ≡ counted before.files.faults
  failed_once built (inl kept) same = kept.1
  failed_once built (inr kept) same = kept.1 ∙ ap counted same

  kept_faults : (built : Tree) → Kept before.files now.files ⊎ Kept built now.files → built.faults ≡ before.files.faults → now.files.faults ≡ before.files.faults
  kept_faults built (inl kept) same = kept.1
  kept_faults built (inr kept) same = kept.1 ∙ same

  course_causes : (c : Course) → Leaves words before now c → HasCauses (counts_of before) (counts_of now) (course_status c)
  course_causes (course.builds built said) left = said_causes before now DONE said (log_text _) left.2.input left.2.says refl
      (record { once = inl left.1.1; failed = λ is. cc; kept = λ is. left.1.1 })
  course_causes (course.unreplaced built said) left =
      let failed = failed_once (replaced (cdb_name words.table) built.bytes before.files) left.1 refl in
      said_causes before now FILES_FAILED said (log_text _) left.2.input left.2.says refl (record { once = inr failed; failed = λ is. failed; kept = λ is. cc })
  course_causes (course.answers value said) left =
      said_causes before now (value_status value) said (out_text _) left.2.input left.2.says (by_value (λ s. is_among spoken s ≡ true) refl refl value)
      (record { once = inl left.1.1; failed = λ is. absurd (by_value (λ s. s ≡ FILES_FAILED → ⊥) (λ e. cc) (λ e. cc) value is); kept = λ is. left.1.1 })
  course_causes (course.serves meaning result) left = keys_causes meaning words.budget before now result left.2 left.1.1
  course_causes (course.lists pairs said) left = said_causes before now DONE said (out_text _) left.2.input left.2.says refl
      (record { once = inl left.1.1; failed = λ is. cc; kept = λ is. left.1.1 })
  course_causes (course.refuses refusal said) left = said_causes before now REFUSED said (log_text _) left.2.input left.2.says refl
      (record { once = inl left.1.1; failed = λ is. cc; kept = λ is. left.1.1 })
  course_causes (course.unread file said) left = said_causes before now FILES_FAILED said (log_text _) left.2.input left.2.says refl
      (record { once = inr left.1.1; failed = λ is. left.1.1; kept = λ is. cc })
  course_causes course.starves left =
      starved_causes (counts_of before) (counts_of now) (ap (λ s. s.input.faults) left.1) (ap (λ s. s.sinks.out.faults) left.1)
      (ap (λ s. s.sinks.mail.faults) left.1) (ap (λ s. s.sinks.log.faults) left.1) (inl left.0.1)
  course_causes (course.starves_building built) left =
      starved_causes (counts_of before) (counts_of now) (ap (λ s. s.input.faults) left.2) (ap (λ s. s.sinks.out.faults) left.2)
      (ap (λ s. s.sinks.mail.faults) left.2) (ap (λ s. s.sinks.log.faults) left.2) (inl (kept_faults (replaced (cdb_name words.table) built.bytes before.files) left.1 refl))

  -- where no call failed, the status is that of what there is to do
  module _ (status : ℕ) (causes : HasCauses (counts_of before) (counts_of now) status) (files : List Pair) (known : before.files.content ≡ Some files)
      (none : NoneRose (counts_of before) (counts_of now)) (old new : ℕ) (small : new ≢ counted_if true old) where
    abbrev Completes : Type 0
    Completes = is_among (statuses_by (task_in None words files)) status ≡ true

    stopped : (why : SinkFault) → status ≡ sink_status why → Completes
    stopped why is = rw (none_stopped why is causes none) (memory_is_free (task_in None words files))

    -- what refuses the table is in the files
    told : (refusal : Refused) → IsStopped words before (unopened.refuses refusal) → new ≡ counted_if (is_of_size refusal) old
        → task_in None words files ≡ Err (unopened.refuses refusal)
    told refusal stop counts =
        subst (λ h. task_in h words files ≡ Err (unopened.refuses refusal)) (none_of stop.happening (stop.named ∙ none_counted (is_of_size refusal) old new counts small))
        (stop.known files known)

    completes : (c : Course) → Leaves words before now c → Counts old new c → status ≡ course_status c → Completes
    completes (course.builds built (Ok x)) left counts is = rw (is, left.0.known files known) refl
    completes (course.builds built (Err why)) left counts is = stopped why is
    completes (course.unreplaced built (Ok x)) left counts is = absurd (none.files (causes.files is))
    completes (course.unreplaced built (Err why)) left counts is = stopped why is
    completes (course.answers value (Ok x)) left counts is =
        rw (is, left.0.known files known) (by_value (λ s. is_among (s ∷ NO_MEMORY ∷ []) s ≡ true) refl refl value)
    completes (course.answers value (Err why)) left counts is = stopped why is
    completes (course.serves meaning (Ok how)) left counts is =
        rw (is, left.0.known files known) (by_ended (λ s. is_among (DONE ∷ WARNED ∷ AT_BUDGET ∷ NO_MEMORY ∷ []) s ≡ true) refl refl refl how)
    completes (course.serves meaning (Err fault.Input)) left counts is = absurd (none_failed is causes none)
    completes (course.serves meaning (Err (fault.Sink why))) left counts is = stopped why is
    completes (course.lists pairs (Ok x)) left counts is = rw (is, left.0.known files known) refl
    completes (course.lists pairs (Err why)) left counts is = stopped why is
    completes (course.refuses refusal (Ok x)) left counts is = rw (is, told refusal left.0 counts) refl
    completes (course.refuses refusal (Err why)) left counts is = stopped why is
    completes (course.unread file (Ok x)) left counts is = absurd (none.files (causes.files is))
    completes (course.unread file (Err why)) left counts is = stopped why is
    completes course.starves left counts is = rw is (memory_is_free (task_in None words files))
    completes (course.starves_building built) left counts is = rw is (memory_is_free (task_in None words files))

-- a run that took a course
pub took_postmap : {words : MapWords} {before now : Objects} {old new : ℕ} {status : ℕ} → Took words before now old new status → PostmapRun words before now old new status
took_postmap {words} {before} {now} {old} {new} {status} took =
    let c = took.course in
    let causes = subst (HasCauses (counts_of before) (counts_of now)) (sym took.status_is) (course_causes words before now c took.leaves) in
    record {
      took = took;
      mail = course_record words before now c took.leaves;
      known = subst (λ s. is_among statuses s ≡ true) (sym took.status_is) (course_known words before now c took.leaves);
      causes = causes;
      complete = λ files known none small. completes words before now status causes files known none old new small c took.leaves took.counts took.status_is;
    }

-- what there is to do with a table that was opened
module _ (words : MapWords) (before now : Objects) (old new : ℕ) where
  abbrev Opening : Result OpenTables OpenFault → Type 0
  Opening result = OpensWith before.files now.files old new (λ event all. opened (tables_in event words all)) result

  with_table : (f : Option (List Node) → Task) (tables : OpenTables) (answer : Result (List (List Node)) Unopened) → opened answer ≡ Ok tables
      → ((answer >>= (λ tables. Ok (slice_get tables 0))) >>= (λ table. Ok (f table))) ≡ Ok (f (slice_get tables.tables 0))
  with_table f tables (Ok all) is = ap (λ (t : Result OpenTables Unopened). t >>= (λ t. Ok (f (slice_get t.tables 0)))) is
  with_table f tables (Err why) is = cc

  without_table : (f : Option (List Node) → Task) (why : Unopened) (answer : Result (List (List Node)) Unopened) → opened answer ≡ Err why
      → ((answer >>= (λ tables. Ok (slice_get tables 0))) >>= (λ table. Ok (f table))) ≡ Err why
  without_table f why (Ok all) is = cc
  without_table f why (Err other) is = ap Err (cc is)

  -- a job that is no build
  abbrev pub Asks : MapJob → (Option (List Node) → Task) → Type 0
  Asks j f = (happening : Happening) (files : List Pair) → task_by j happening words files ≡ (table_in happening words files >>= (λ table. Ok (f table)))

  module _ (f : Option (List Node) → Task) (j : MapJob) (is : words.job ≡ j) (asks : Asks j f) where
    task_is : (tables : OpenTables) → Opening (Ok tables) → is_of j (f (slice_get tables.tables 0)) ≡ true → IsTask words before (f (slice_get tables.tables 0))
    task_is tables opens own = record {
      known = λ files known.
          ap (λ j. task_by j None words files) is ∙ asks None files ∙ with_table f tables (tables_in None words files)
          (subst (λ e. opened (tables_in e words files) ≡ Ok tables) (none_of opens.event opens.names) (opens.known files known));
      asked = ap (λ j. is_of j (f (slice_get tables.tables 0))) is ∙ own;
    }

    stops : (fault : OpenFault) (why : Unopened) (opens : Opening (Err fault))
        → ((files : List Pair) → before.files.content ≡ Some files → opened (tables_in opens.event words files) ≡ Err why)
        → names_event {A = OpenTables} (Err fault) ≡ names_happening why → IsStopped words before why
    stops fault why opens said named = record {
      happening = opens.event;
      known = λ files known.
          ap (λ j. task_by j opens.event words files) is ∙ asks opens.event files
          ∙ without_table f why (tables_in opens.event words files) (said files known);
      named = opens.names ∙ named;
    }

    pub took_unopened : (why : OpenFault) {status : ℕ} → Opening (Err why) → SaysUnopened before.streams.sinks now.streams.sinks why status
        → now.streams.input ≡ before.streams.input → Took words before now old new status
    took_unopened (open_fault.Refused refusal) opens ends same = record {
      course = course.refuses refusal ends.said;
      status_is = ends.is;
      leaves = (
        stops (open_fault.Refused refusal) (unopened.refuses refusal) opens opens.known (or_false (is_of_size refusal)),
        opens.leaves,
        record { says = ends.says; input = same },
      );
      counts = opens.counts;
    }
    took_unopened (open_fault.Failed file) opens ends same = record {
      course = course.unread file ends.said;
      status_is = ends.is;
      leaves = (stops (open_fault.Failed file) (unopened.fails file) opens opens.known refl, opens.leaves, record { says = ends.says; input = same });
      counts = opens.counts;
    }
    took_unopened open_fault.NoMemory opens ends same = record {
      course = course.starves;
      status_is = ends.1;
      leaves = (opens.leaves, rw (same, ends.0) refl);
      counts = opens.counts;
    }

  pub took_query : (key : List ℕ) {status : ℕ} (tables : OpenTables) → Opening (Ok tables) → now.streams.input ≡ before.streams.input → words.job ≡ job.Query key
      → Ends before.streams.sinks now.streams.sinks (out_text (value_line (value_in tables key))) (value_status (value_in tables key)) status → Took words before now old new status
  took_query key tables opens same is ends = record {
    course = course.answers (value_in tables key) ends.said;
    status_is = ends.is;
    leaves = (task_is (λ table. task.answers (value_at (meaning_in table) key)) (job.Query key) is (λ happening files. refl) tables opens refl, opens.leaves, record { says = ends.says; input = same });
    counts = opens.counts;
  }

  pub took_elements : {status : ℕ} (tables : OpenTables) → Opening (Ok tables) → now.streams.input ≡ before.streams.input → words.job ≡ job.Elements
      → Ends before.streams.sinks now.streams.sinks (out_text (pair_lines (listed (slice_get tables.tables 0)))) DONE status → Took words before now old new status
  took_elements tables opens same is ends = record {
    course = course.lists (listed (slice_get tables.tables 0)) ends.said;
    status_is = ends.is;
    leaves = (task_is (λ table. task.lists (listed table)) job.Elements is (λ happening files. refl) tables opens refl, opens.leaves, record { says = ends.says; input = same });
    counts = opens.counts;
  }

  pub took_keys : (tables : OpenTables) → Opening (Ok tables) → (result : Result Ended KeysFault) {status : ℕ} → words.job ≡ job.QueryInput → status ≡ keys_status result
      → Answers (meaning_in (slice_get tables.tables 0)) words.budget before.streams now.streams result → Took words before now old new status
  took_keys tables opens result is status_is answers = record {
    course = course.serves (meaning_in (slice_get tables.tables 0)) result;
    status_is = status_is;
    leaves = (task_is (λ table. task.serves (meaning_in table)) job.QueryInput is (λ happening files. refl) tables opens refl, opens.leaves, answers);
    counts = opens.counts;
  }

-- what there is to do where a cdb is built
module _ (words : MapWords) (repeats : Repeats) (warned : Bool) (is : words.job ≡ job.Build repeats warned) where
  abbrev Building : Objects → Tree → Result Built OpenFault → Type 0
  Building before mid result = Opens before.files mid (λ failed all. built_in failed words.table words.folded repeats warned all) result

  build_is : (before : Objects) (mid : Tree) (built : Built) → Building before mid (Ok built) → IsTask words before (task.builds built)
  build_is before mid built builds = record {
    known = λ files known. ap (λ j. task_by j None words files) is ∙ ap (λ (b : Result Built Unopened). b >>= (λ b. Ok (task.builds b))) (builds.known files known);
    asked = ap (λ j. is_of j (task.builds built)) is;
  }

  no_build : (before : Objects) (happening : Happening) (why : Unopened)
      → ((files : List Pair) → before.files.content ≡ Some files → built_in (is_unread happening) words.table words.folded repeats warned files ≡ Err why)
      → is_some happening ≡ names_happening why → IsStopped words before why
  no_build before happening why said named = record {
    happening = happening;
    known = λ files known. ap (λ j. task_by j happening words files) is ∙ ap (λ (b : Result Built Unopened). b >>= (λ b. Ok (task.builds b))) (said files known);
    named = named;
  }

  pub took_unbuilt : (count : ℕ) (before now : Objects) (why : OpenFault) {status : ℕ} → Building before now.files (Err why) → names_size why ≡ false
      → SaysUnopened before.streams.sinks now.streams.sinks why status → now.streams.input ≡ before.streams.input → Took words before now count count status
  took_unbuilt count before now (open_fault.Refused refusal) builds small ends same = record {
    course = course.refuses refusal ends.said;
    status_is = ends.is;
    leaves = (no_build before None (unopened.refuses refusal) builds.known (sym small), builds.leaves, record { says = ends.says; input = same });
    counts = small_counts count (is_of_size refusal) small;
  }
  took_unbuilt count before now (open_fault.Failed file) builds small ends same = record {
    course = course.unread file ends.said;
    status_is = ends.is;
    leaves = (no_build before read_at_first (unopened.fails file) builds.known refl, builds.leaves, record { says = ends.says; input = same });
    counts = refl;
  }
  took_unbuilt count before now open_fault.NoMemory builds small ends same = record {
    course = course.starves;
    status_is = ends.1;
    leaves = (builds.leaves, rw (same, ends.0) refl);
    counts = inl refl;
  }

  -- the cdb was put in its place, or not, after the text was read
  abbrev put : Built → Tree → Tree
  put built tree = replaced (cdb_name words.table) built.bytes tree

  put_kept : (built : Built) (x y : Tree) → Kept x y → Kept (put built x) (put built y)
  put_kept built x y kept = (ap (λ c. option_map (λ files. with_file files (cdb_name words.table) built.bytes) c) kept.0, kept.1)

  failed_kept : (x y : Tree) → Kept x y → Kept (failed_tree x) (failed_tree y)
  failed_kept x y kept = (kept.0, ap counted kept.1)

  after_kept : (x y now : Tree) → Kept x y → now ≡ y → Kept x now
  after_kept x y now kept is = (ap (λ (t : Tree). t.content) is ∙ kept.0, ap (λ (t : Tree). t.faults) is ∙ kept.1)

  failed_after : (built : Built) (before mid now : Tree) → Kept before mid → (now ≡ failed_tree mid) ⊎ (now ≡ failed_tree (put built mid))
      → Kept (failed_tree before) now ⊎ Kept (failed_tree (put built before)) now
  failed_after built before mid now read (inl is) = inl (after_kept (failed_tree before) (failed_tree mid) now (failed_kept before mid read) is)
  failed_after built before mid now read (inr is) =
      inr (after_kept (failed_tree (put built before)) (failed_tree (put built mid)) now (failed_kept (put built before) (put built mid) (put_kept built before mid read)) is)

  starved_after : (built : Built) (before mid now : Tree) → Kept before mid → (now ≡ mid) ⊎ (now ≡ put built mid) → Kept before now ⊎ Kept (put built before) now
  starved_after built before mid now read (inl is) = inl (after_kept before mid now read is)
  starved_after built before mid now read (inr is) = inr (after_kept (put built before) (put built mid) now (put_kept built before mid read) is)

  pub took_put : (count : ℕ) (before now : Objects) (mid : Tree) (built : Built) {status : ℕ} → Building before mid (Ok built) → now.streams.input ≡ before.streams.input
      → IsPut (cdb_name words.table) built mid now.files before.streams.sinks now.streams.sinks status → Took words before now count count status
  took_put count before now mid built builds same (inl done) = record {
    course = course.builds built done.1.said;
    status_is = done.1.is;
    leaves = (
      build_is before mid built builds,
      after_kept (put built before.files) (put built mid) now.files (put_kept built before.files mid builds.leaves) done.0,
      record { says = done.1.says; input = same },
    );
    counts = refl;
  }
  took_put count before now mid built builds same (inr (inl failed)) = record {
    course = course.unreplaced built failed.1.said;
    status_is = failed.1.is;
    leaves = (build_is before mid built builds, failed_after built before.files mid now.files builds.leaves failed.0, record { says = failed.1.says; input = same });
    counts = refl;
  }
  took_put count before now mid built builds same (inr (inr short)) = record {
    course = course.starves_building built;
    status_is = short.2;
    leaves = (build_is before mid built builds, starved_after built before.files mid now.files builds.leaves short.0, rw (same, short.1) refl);
    counts = refl;
  }

-- it was out of memory before there was anything to do
pub took_starved : (words : MapWords) (o : Objects) (count : ℕ) → Took words o o count count NO_MEMORY
took_starved words o count = record { course = course.starves; status_is = refl; leaves = ((refl, refl), refl); counts = inl refl }
