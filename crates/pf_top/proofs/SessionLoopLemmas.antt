-- Pieces that pass from the input to a session, and what is said for them.
use Rattle.std.proofs.Common.{◌≡◌, ℕ, ◌+◌, ◌<◌, ◌≤◌, Bool, true, false, List, [], ◌++◌, Result, Ok, Err, inr, refl, sym, ap, subst, ◌∙◌, arith, if◌then◌else◌, length-append}
use Rattle.std.proofs.Math.Path.{fun_ext}
use Rattle.std.specs.Io.KnownBytes.{IsAtEnd}
use Rattle.pf_base.proofs.KnownLemmas.{appended_more, takes_more, takes_none}
use Rattle.pf_base.specs.Text.Lines.{lines}
use Rattle.pf_base.specs.Outside.Objects.{Streams, appended, joined, out_text}
use Rattle.pf_base.specs.Outside.Known.{Takes, failed_input, found_end}
use Rattle.pf_base.specs.declared.outside.texts.SinkFault.{SinkFault}
use Rattle.pf_base.specs.declared.outside.texts.Texts.{Texts}
use Rattle.pf_smtp.proofs.PieceLemmas.{joined_assoc}
use Rattle.pf_smtp.proofs.StepLemmas.{onto_line_nothing}
use Rattle.pf_smtp.proofs.TookLemmas.{texts_more, took_more, took_none}
use Rattle.pf_smtp.specs.Clauses.Feeding.{fresh, given, texts_given}
use Rattle.pf_smtp.specs.Session.{session, start, steps, texts_of}
use Rattle.pf_smtp.specs.Step.{Step}
use Rattle.pf_smtp.specs.Text.{greeting_of}
use Rattle.pf_smtp.specs.declared.session.Going.TheVariants as goes
use Rattle.pf_smtp.specs.declared.progress.Progress.{Progress}
use Rattle.pf_smtp.specs.declared.state.Setup.{Setup}
use Rattle.pf_top.specs.SessionLoop.{EndsAs, HasSession, Speech, Served, Serves, ServesCut, ServesShort, ServesUntil, speech_of}
use Rattle.pf_top.specs.Clauses.Turns.{IsTurn, Passed, Stops, speech_from}
use Rattle.pf_top.specs.declared.session_loop.Ended.{Ended}
use Rattle.pf_top.specs.declared.session_loop.Ended.TheVariants as ended
use Rattle.pf_top.specs.declared.session_loop.LoopFault.{LoopFault}
use Rattle.pf_top.specs.declared.session_loop.LoopFault.TheVariants as fault

pub going_more : (b : Bool) → goes.More ≡ (if b then goes.Ended else goes.More) → b ≡ false
going_more true e = cc
going_more false e = refl

pub going_over : (b : Bool) → goes.Ended ≡ (if b then goes.Ended else goes.More) → b ≡ true
going_over true e = refl
going_over false e = cc

-- nothing has passed to a session that has not begun
pub passed_none : (w : Streams) (setup : Setup) → Passed w w (fresh setup) (fresh setup) 0
passed_none w setup = record { taken = []; is = refl; input = takes_none w.input; took = took_none w.sinks setup }

pub passed_more : {a b c : Streams} {s t u : Progress} {m n : ℕ} → Passed a b s t m → Passed b c t u n → Passed a c s u (m + n)
passed_more {m = m} {n = n} p q = record {
  taken = p.taken ++ q.taken;
  is = length-append p.taken q.taken ∙ omega (arith, p.is, q.is);
  input = takes_more p.input q.input;
  took = took_more p.took q.took;
}

-- whether it is over after what has passed
over_is : {a b : Streams} {s t : Progress} {n : ℕ} (p : Passed a b s t n) → (given s p.taken).next.ended ≡ t.state.ended
over_is p = ap (λ x. x.ended) (sym p.took.state)

-- a read found the end before the budget was taken
pub ends_here : {a b now : Streams} {s t : Progress} {n budget : ℕ} → now ≡ record b { input = found_end b.input } → IsAtEnd b.input.left → t.state.ended ≡ false
    → Passed a b s t n → n < budget → ServesUntil (speech_from s) budget a now ended.AtEnd
ends_here {b = b} found at going p less = record {
  taken = p.taken;
  mid = b;
  serves = record { input = p.input; sinks = p.took.sinks };
  ends = (found, at, omega (arith, p.is, less), over_is p ∙ going);
}

-- the session is over with a piece
pub over_here : {a b c : Streams} {s t u : Progress} {m n : ℕ} (budget : ℕ) → t.state.ended ≡ false → u.state.ended ≡ true → Passed a b s t m → Passed b c t u n → n ≤ 4096 → m + n ≤ budget
    → ServesUntil (speech_from s) budget a c ended.AtOver
over_here {c = c} budget going over p q few within = record {
  taken = p.taken ++ q.taken;
  mid = c;
  serves = record { input = takes_more p.input q.input; sinks = (took_more p.took q.took).sinks };
  ends = (
    refl,
    ap (λ x. x.ended) (sym (took_more p.took q.took).state) ∙ over,
    omega (arith, length-append p.taken q.taken, p.is, q.is, within),
    record { earlier = p.taken; piece = q.taken; parts = refl; few = omega (arith, q.is, few); going = over_is p ∙ going },
  );
}

-- the budget was taken
pub budget_here : {a b : Streams} {s t : Progress} {n budget : ℕ} → t.state.ended ≡ false → Passed a b s t n → n ≡ budget → ServesUntil (speech_from s) budget a b ended.AtBudget
budget_here {b = b} going p all = record {
  taken = p.taken;
  mid = b;
  serves = record { input = p.input; sinks = p.took.sinks };
  ends = (refl, p.is ∙ all, over_is p ∙ going);
}

-- a read failed before the budget was taken
pub short_here : {a b now : Streams} {s t : Progress} {n budget : ℕ} → now ≡ record b { input = failed_input b.input } → t.state.ended ≡ false → Passed a b s t n → n < budget
    → ServesShort (speech_from s) budget a now
short_here {b = b} broken going p less = record {
  taken = p.taken;
  mid = b;
  serves = record { input = p.input; sinks = p.took.sinks };
  short = omega (arith, p.is, less);
  going = over_is p ∙ going;
  broken = broken;
}

-- a fault came with a piece
pub cut_here : {a b now : Streams} {s t : Progress} {n most budget : ℕ} {why : SinkFault} → t.state.ended ≡ false → Passed a b s t n → Stops b now t most why → most ≤ 4096 → n + most ≤ budget
    → ServesCut (speech_from s) budget a now why
cut_here {b = b} {t = t} going p stops few within = record {
  earlier = p.taken;
  mid = b;
  serves = record { input = p.input; sinks = p.took.sinks };
  going = over_is p ∙ going;
  piece = stops.piece;
  few = omega (arith, stops.few, few);
  within = omega (arith, p.is, stops.few, within);
  input = stops.input;
  texts = texts_given t stops.piece;
  adds = texts_more stops.piece p.took;
  stops = stops.stops;
}

-- either fault of a turn
pub served_fault : {a b : Streams} {s t : Progress} {n most budget : ℕ} (now : Streams) (u : Progress) (why : LoopFault) → t.state.ended ≡ false → Passed a b s t n
    → IsTurn b now t u most (Err why) → n < budget → most ≤ 4096 → n + most ≤ budget → Served (speech_from s) budget a now (Err why)
served_fault now u fault.Input going p turn less few within = short_here turn.0 going p less
served_fault now u (fault.Sink why) going p turn less few within = cut_here going p turn few within

-- what is said after a text
abbrev behind : Texts → Speech → Speech
behind first speech = record { said = λ taken. joined first (speech.said taken); over = speech.over }

module _ (first : Texts) (speech : Speech) (before mid : Streams) (greeted : mid ≡ record before { sinks = appended before.sinks first }) where
  serves_behind : {now : Streams} {taken : List ℕ} → Serves speech mid now taken → Serves (behind first speech) before now taken
  serves_behind {now} {taken} serves = record {
    input = subst (λ w. Takes w.input now.input taken) greeted serves.input;
    sinks = serves.sinks ∙ ap (λ w. appended w.sinks (speech.said taken)) greeted ∙ appended_more before.sinks first (speech.said taken);
  }

  ends_behind : (budget : ℕ) (end now : Streams) (taken : List ℕ) (how : Ended) → EndsAs speech budget end now taken how → EndsAs (behind first speech) budget end now taken how
  ends_behind budget end now taken ended.AtEnd ends = ends
  ends_behind budget end now taken ended.AtOver ends =
      let last = ends.3 in
      (ends.0, ends.1, ends.2, record { earlier = last.earlier; piece = last.piece; parts = last.parts; few = last.few; going = last.going })
  ends_behind budget end now taken ended.AtBudget ends = ends

  served_behind : (budget : ℕ) (now : Streams) (result : Result Ended LoopFault) → Served speech budget mid now result → Served (behind first speech) budget before now result
  served_behind budget now (Ok how) t = record { taken = t.taken; mid = t.mid; serves = serves_behind t.serves; ends = ends_behind budget t.mid now t.taken how t.ends }
  served_behind budget now (Err fault.Input) t = record { taken = t.taken; mid = t.mid; serves = serves_behind t.serves; short = t.short; going = t.going; broken = t.broken }
  served_behind budget now (Err (fault.Sink why)) t = record {
    earlier = t.earlier;
    mid = t.mid;
    serves = serves_behind t.serves;
    going = t.going;
    piece = t.piece;
    few = t.few;
    within = t.within;
    input = t.input;
    texts = t.texts;
    adds = ap (joined first) t.adds ∙ sym (joined_assoc first (speech.said t.earlier) t.texts);
    stops = t.stops;
  }

-- what a session gives that is at its start is what the whole session gives
given_fresh : (setup : Setup) (taken : List ℕ) → given (fresh setup) taken ≡ session setup taken
given_fresh setup taken = ap (steps setup start) (onto_line_nothing (lines taken))

abbrev greeting : Setup → Texts
greeting setup = out_text (greeting_of setup.banner)

speech_is : (setup : Setup) → behind (greeting setup) (speech_from (fresh setup)) ≡ speech_of setup
speech_is setup =
    ap (λ (g : List ℕ → Step). record { said = λ taken. joined (greeting setup) (texts_of setup (g taken)); over = λ taken. (g taken).next.ended }) (fun_ext (given_fresh setup))

-- the greeting, and then what is said from the start on, are a session
pub has_session : (setup : Setup) (budget : ℕ) (before now : Streams) {mid : Streams} {s : Progress} (result : Result Ended LoopFault) → mid ≡ record before { sinks = appended before.sinks (greeting setup) }
    → s ≡ fresh setup → Served (speech_from s) budget mid now result → HasSession setup budget before now result
has_session setup budget before now {mid} result greeted begins served =
    let from_start = subst (λ x. Served (speech_from x) budget mid now result) begins served in
    by_result result (subst (λ x. Served x budget before now result) (speech_is setup) (served_behind (greeting setup) (speech_from (fresh setup)) before mid greeted budget now result from_start))
  where
    by_result : (result : Result Ended LoopFault) → Served (speech_of setup) budget before now result → HasSession setup budget before now result
    by_result (Ok how) t = t
    by_result (Err fault.Input) t = t
    by_result (Err (fault.Sink why)) t = inr t
