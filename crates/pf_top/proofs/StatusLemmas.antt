-- The status of a run by its course.
use Rattle.std.proofs.Common.{◌≡◌, ℕ, true, List, [], ◌∷◌, ◌++◌, Some, Result, Ok, Err, inl, inr, refl, sym, ap, subst, ◌∙◌}
use Rattle.std.specs.Prelude.{⊤}
use Rattle.pf_base.proofs.StatusLemmas.{counts_same, kept_causes, none_failed, none_stopped, said_causes, said_record, starved_causes, stops_causes, stops_record}
use Rattle.pf_base.proofs.KnownLemmas.{wrote_none}
use Rattle.pf_base.specs.Outside.Counts.{counted}
use Rattle.pf_base.specs.Outside.Objects.{Objects, Streams, log_text, out_text, sink_status, status_of}
use Rattle.pf_base.specs.Outside.Known.{wrote}
use Rattle.pf_base.specs.Outside.Statuses.{HasCauses, NoneRose, counts_of, is_among}
use Rattle.pf_base.specs.declared.pair.Pair.{Pair}
use Rattle.pf_base.specs.declared.refused.Refused.{Refused}
use Rattle.pf_base.specs.declared.outside.status.TheConstants.{AT_BUDGET, DONE, FILES_FAILED, LOG_FAILED, NO_MEMORY, REFUSED, USAGE}
use Rattle.pf_base.specs.declared.outside.texts.SinkFault.{SinkFault}
use Rattle.pf_base.specs.declared.outside.texts.SinkFault.TheVariants as sink
use Rattle.pf_smtp.proofs.PieceLemmas.{no_records}
use Rattle.pf_smtp.specs.Session.{session}
use Rattle.pf_smtp.specs.Text.{greeting_of}
use Rattle.pf_smtp.specs.declared.state.Setup.{Setup}
use Rattle.pf_top.specs.Opening.{setup_of}
use Rattle.pf_top.specs.Run.{Unformed, usage_line}
use Rattle.pf_top.specs.Smtpd.{Course, Leaves, SaysLine, SmtpdRun, course_status, ended_status, opened_in, statuses, statuses_by, loop_status}
use Rattle.pf_top.specs.Smtpd.{Course as course}
use Rattle.pf_top.specs.SessionLoop.{EndsAs, HasSession, Speech, Serves, ServesCut, speech_of}
use Rattle.pf_top.specs.declared.opening.Opening.{Opening}
use Rattle.pf_top.specs.declared.session_loop.Ended.{Ended}
use Rattle.pf_top.specs.declared.session_loop.Ended.TheVariants as ended
use Rattle.pf_top.specs.declared.session_loop.LoopFault.{LoopFault}
use Rattle.pf_top.specs.declared.session_loop.LoopFault.TheVariants as fault
use Rattle.pf_words.specs.declared.smtpd.SmtpdWords.{SmtpdWords}

-- the status of a session that came to its end is one of two
by_ended : (P : ℕ → Type 0) → P DONE → P AT_BUDGET → (how : Ended) → P (ended_status how)
by_ended P done budget ended.AtEnd = done
by_ended P done budget ended.AtOver = done
by_ended P done budget ended.AtBudget = budget

-- the end that a read found changes no sink, and no count of faults
module _ (speech : Speech) (budget : ℕ) (mid now : Streams) (taken : List ℕ) where
  ended_sinks : (how : Ended) → EndsAs speech budget mid now taken how → now.sinks ≡ mid.sinks
  ended_sinks ended.AtEnd ends = ap (λ w. w.sinks) ends.0
  ended_sinks ended.AtOver ends = ap (λ w. w.sinks) ends.0
  ended_sinks ended.AtBudget ends = ap (λ w. w.sinks) ends.0

  ended_faults : (how : Ended) → EndsAs speech budget mid now taken how → now.input.faults ≡ mid.input.faults
  ended_faults ended.AtEnd ends = ap (λ w. w.input.faults) ends.0
  ended_faults ended.AtOver ends = ap (λ w. w.input.faults) ends.0
  ended_faults ended.AtBudget ends = ap (λ w. w.input.faults) ends.0

module _ (setup : Setup) where
  said_none : (taken : List ℕ) → ((speech_of setup).said taken).mail ≡ []
  said_none taken = no_records (session setup taken).records

  serves_record : (before now : Streams) (taken : List ℕ) → Serves (speech_of setup) before now taken → now.sinks.mail ≡ before.sinks.mail
  serves_record before now taken serves = ap (λ s. s.mail) serves.sinks ∙ ap (wrote before.sinks.mail) (said_none taken) ∙ wrote_none before.sinks.mail

  cut_none : {budget : ℕ} {before now : Streams} {why : SinkFault} (cut : ServesCut (speech_of setup) budget before now why) → cut.texts.mail ≡ []
  cut_none cut = sym (ap (λ x. x ++ cut.texts.mail) (said_none cut.earlier)) ∙ sym (ap (λ t. t.mail) cut.adds) ∙ said_none (cut.earlier ++ cut.piece)

  loop_record : (budget : ℕ) (before now : Streams) (result : Result Ended LoopFault) → HasSession setup budget before now result → now.sinks.mail ≡ before.sinks.mail
  loop_record budget before now (Ok how) t =
      ap (λ s. s.mail) (ended_sinks (speech_of setup) budget t.mid now t.taken how t.ends) ∙ serves_record before t.mid t.taken t.serves
  loop_record budget before now (Err fault.Input) t = ap (λ w. w.sinks.mail) t.broken ∙ serves_record before t.mid t.taken t.serves
  loop_record budget before now (Err (fault.Sink why)) (inl t) = stops_record before.sinks now.sinks (out_text (greeting_of setup.banner)) why refl t.stops
  loop_record budget before now (Err (fault.Sink why)) (inr t) = stops_record t.mid.sinks now.sinks t.texts why (cut_none t) t.stops ∙ serves_record before t.mid t.earlier t.serves

  -- the counts after what was said
  serves_counts : (before now : Objects) (taken : List ℕ) → Serves (speech_of setup) before.streams now.streams taken → now.files.faults ≡ before.files.faults → counts_of now ≡ counts_of before
  serves_counts before now taken serves files =
      counts_same serves.input.faults (ap (λ s. s.out.faults) serves.sinks) (ap (λ s. s.mail.faults) serves.sinks) (ap (λ s. s.log.faults) serves.sinks) files

  loop_causes : (budget : ℕ) (before now : Objects) (result : Result Ended LoopFault) → HasSession setup budget before.streams now.streams result → now.files.faults ≡ before.files.faults
      → HasCauses (counts_of before) (counts_of now) (loop_status result)
  loop_causes budget before now (Ok how) t files =
      let mid : Objects = record { streams = t.mid; files = now.files } in
      let sinks = ended_sinks (speech_of setup) budget t.mid now.streams t.taken how t.ends in
      let input = ended_faults (speech_of setup) budget t.mid now.streams t.taken how t.ends in
      let ended : counts_of now ≡ counts_of mid =
      counts_same input (ap (λ s. s.out.faults) sinks) (ap (λ s. s.mail.faults) sinks) (ap (λ s. s.log.faults) sinks) refl in
      let same = ended ∙ serves_counts before mid t.taken t.serves files in
      by_ended (HasCauses (counts_of before) (counts_of now)) (kept_causes _ _ DONE same refl) (kept_causes _ _ AT_BUDGET same refl) how
  loop_causes budget before now (Err fault.Input) t files = record {
    input = ap (λ w. w.input.faults) t.broken ∙ ap counted t.serves.input.faults;
    out = ap (λ w. w.sinks.out.faults) t.broken ∙ ap (λ s. s.out.faults) t.serves.sinks;
    mail = ap (λ w. w.sinks.mail.faults) t.broken ∙ ap (λ s. s.mail.faults) t.serves.sinks;
    log = ap (λ w. w.sinks.log.faults) t.broken ∙ ap (λ s. s.log.faults) t.serves.sinks;
    once = inl files;
    files = λ is. cc;
    kept = λ is. cc;
  }
  loop_causes budget before now (Err (fault.Sink why)) (inl t) files =
      stops_causes before now why (out_text (greeting_of setup.banner)) t.stops (ap (λ i. i.faults) t.input) (inl files)
  loop_causes budget before now (Err (fault.Sink why)) (inr t) files =
      let mid : Objects = record { streams = t.mid; files = before.files } in
      subst (λ k. HasCauses k (counts_of now) (sink_status why)) (serves_counts before mid t.earlier t.serves refl)
      (stops_causes mid now why t.texts t.stops t.input.faults (inl files))

sink_known : (why : SinkFault) → is_among statuses (sink_status why) ≡ true
sink_known sink.Out = refl
sink_known sink.Mail = refl
sink_known sink.Log = refl
sink_known sink.NoMemory = refl

-- memory may be wanting whatever main.cf says
memory_is_free : (answer : Result Opening Refused) → is_among (statuses_by answer) NO_MEMORY ≡ true
memory_is_free (Ok opening) = refl
memory_is_free (Err refusal) = refl

module _ (words : SmtpdWords) (before now : Objects) where
  course_record : (c : Course) → Leaves words before now c → now.streams.sinks.mail ≡ before.streams.sinks.mail
  course_record (course.serves opening result) left = loop_record (setup_of opening words.client) words.budget before.streams now.streams result left.2
  course_record (course.refuses refusal said) left = said_record before.streams.sinks now.streams.sinks (log_text _) said refl left.2.says
  course_record (course.unread said) left = said_record before.streams.sinks now.streams.sinks (log_text _) said refl left.1.says
  course_record course.starves left = ap (λ s. s.sinks.mail) left.1

  course_known : (c : Course) → is_among statuses (course_status c) ≡ true
  course_known (course.serves opening (Ok how)) = by_ended (λ s. is_among statuses s ≡ true) refl refl how
  course_known (course.serves opening (Err fault.Input)) = refl
  course_known (course.serves opening (Err (fault.Sink why))) = sink_known why
  course_known (course.refuses refusal (Ok x)) = refl
  course_known (course.refuses refusal (Err why)) = sink_known why
  course_known (course.unread (Ok x)) = refl
  course_known (course.unread (Err why)) = sink_known why
  course_known course.starves = refl

  course_causes : (c : Course) → Leaves words before now c → HasCauses (counts_of before) (counts_of now) (course_status c)
  course_causes (course.serves opening result) left = loop_causes (setup_of opening words.client) words.budget before now result left.2 left.1.1
  course_causes (course.refuses refusal said) left = said_causes before now REFUSED said (log_text _) left.2.input left.2.says refl
      (record { once = inl left.1.1; failed = λ is. cc; kept = λ is. left.1.1 })
  course_causes (course.unread said) left = said_causes before now FILES_FAILED said (log_text _) left.1.input left.1.says refl
      (record { once = inr left.0.1; failed = λ is. left.0.1; kept = λ is. cc })
  course_causes course.starves left =
      starved_causes (counts_of before) (counts_of now) (ap (λ s. s.input.faults) left.1) (ap (λ s. s.sinks.out.faults) left.1)
      (ap (λ s. s.sinks.mail.faults) left.1) (ap (λ s. s.sinks.log.faults) left.1) (inl left.0.1)

  -- where no call failed, the status is that of what main.cf says
  completes : (c : Course) → Leaves words before now c → (status : ℕ) → status ≡ course_status c → HasCauses (counts_of before) (counts_of now) status
      → (files : List Pair) → before.files.content ≡ Some files → NoneRose (counts_of before) (counts_of now) → is_among (statuses_by (opened_in words files)) status ≡ true
  completes (course.serves opening (Ok how)) left status is causes files known none =
      rw (is, left.0 files known) (by_ended (λ s. is_among (DONE ∷ AT_BUDGET ∷ NO_MEMORY ∷ []) s ≡ true) refl refl how)
  completes (course.serves opening (Err fault.Input)) left status is causes files known none = absurd (none_failed is causes none)
  completes (course.serves opening (Err (fault.Sink why))) left status is causes files known none = rw (none_stopped why is causes none) (memory_is_free (opened_in words files))
  completes (course.refuses refusal (Ok x)) left status is causes files known none = rw (is, left.0 files known) refl
  completes (course.refuses refusal (Err why)) left status is causes files known none = rw (none_stopped why is causes none) (memory_is_free (opened_in words files))
  completes (course.unread (Ok x)) left status is causes files known none = absurd (none.files (causes.files is))
  completes (course.unread (Err why)) left status is causes files known none = rw (none_stopped why is causes none) (memory_is_free (opened_in words files))
  completes course.starves left status is causes files known none = rw is (memory_is_free (opened_in words files))

  -- a run that took a course
  pub took_course : (status : ℕ) (c : Course) → status ≡ course_status c → Leaves words before now c → SmtpdRun words before now status
  took_course status c is left =
      let causes = subst (HasCauses (counts_of before) (counts_of now)) (sym is) (course_causes c left) in
      record {
        course = c;
        status_is = is;
        leaves = left;
        mail = course_record c left;
        known = subst (λ s. is_among statuses s ≡ true) (sym is) (course_known c);
        causes = causes;
        complete = completes c left status is causes;
      }

-- a run that said how the program is used
usage_known : (before now : Streams) (said : Result ⊤ SinkFault) → SaysLine before now usage_line said → is_among (USAGE ∷ LOG_FAILED ∷ NO_MEMORY ∷ []) (status_of USAGE said) ≡ true
usage_known before now (Ok x) line = refl
usage_known before now (Err sink.Out) line = absurd (line.says.0 refl)
usage_known before now (Err sink.Mail) line = absurd (line.says.0 refl)
usage_known before now (Err sink.Log) line = refl
usage_known before now (Err sink.NoMemory) line = refl

pub said_usage : (before now : Objects) (status : ℕ) (said : Result ⊤ SinkFault) → status ≡ status_of USAGE said → SaysLine before.streams now.streams usage_line said → now.files ≡ before.files
    → Unformed before now status
said_usage before now status said is line files = record {
  said = said;
  status_is = is;
  says = line;
  files = files;
  known = subst (λ s. is_among (USAGE ∷ LOG_FAILED ∷ NO_MEMORY ∷ []) s ≡ true) (sym is) (usage_known before.streams now.streams said line);
  causes = subst (HasCauses (counts_of before) (counts_of now)) (sym is)
      (said_causes before now USAGE said (log_text usage_line) line.input line.says refl (record { once = inl (ap (λ t. t.faults) files); failed = λ is. cc; kept = λ is. ap (λ t. t.faults) files }));
}
