-- The keys of an input that comes in pieces.
use Rattle.std.proofs.Common.{◌≡◌, ℕ, ◌+◌, ◌<◌, ◌≤◌, Bool, true, false, ◌||◌, List, [], ◌∷◌, ◌++◌, Result, Ok, Err, inl, inr, refl, sym, ap, subst, ◌∙◌, map, arith, append_assoc, append-nil, length-append}
use Rattle.std.proofs.lemmas.Grind.{flat_map-append}
use Rattle.std.proofs.lemmas.List.{map-append}
use Rattle.std.proofs.lemmas.List.Folds.{list_any-append}
use Rattle.std.specs.Io.KnownBytes.{IsAtEnd}
use Rattle.std.specs.Prelude.{is_some}
use Rattle.pf_base.proofs.KnownLemmas.{appended_more, appended_none, takes_more, takes_none}
use Rattle.pf_base.proofs.LineEnds.{lines-append, lines-nil, rest-append, rest-nil, rest_of_none}
use Rattle.pf_base.specs.Clauses.Pieces.{onto_line, unless_line}
use Rattle.pf_base.specs.Outside.Known.{found_end}
use Rattle.pf_base.specs.Outside.Objects.{Sinks, Streams, appended, out_text}
use Rattle.pf_base.specs.Text.Lines.{lines, rest, without_return}
use Rattle.pf_asks.specs.Looking.{Meaning}
use Rattle.pf_tools.specs.Clauses.Keys.{ComesDownTo, IsEnd, IsTurn, Passed, TakesKeys, TakesPiece, keys_ended, partial_after, progress_of}
use Rattle.pf_tools.specs.Map.Keys.{Answers, AnswersBudget, answered, last_key, whole_keys}
use Rattle.pf_tools.specs.Map.Lines.{has_value, key_line, key_lines, value_at}
use Rattle.pf_tools.specs.declared.map.keys.Ended.{Ended}
use Rattle.pf_tools.specs.declared.map.keys.Ended.TheVariants as ended
use Rattle.pf_tools.specs.declared.map.keys.KeysFault.{KeysFault}
use Rattle.pf_tools.specs.declared.map.keys.KeysFault.TheVariants as fault
use Rattle.pf_tools.specs.declared.map.keys.Progress.{Progress}

onto_nothing : (L : List (List ℕ)) → onto_line [] L ≡ L
onto_nothing [] = refl
onto_nothing (line ∷ L) = refl

module _ (m : Meaning) where
  -- the keys of two lists in turn
  lines_append : (xs ys : List (List ℕ)) → key_lines m (xs ++ ys) ≡ key_lines m xs ++ key_lines m ys
  lines_append xs ys = flat_map-append (key_line m) xs ys

  has_append : (xs ys : List (List ℕ)) → has_value m (xs ++ ys) ≡ (has_value m xs || has_value m ys)
  has_append xs ys = list_any-append (λ key. is_some (value_at m key)) xs ys

  -- nothing is there before the first byte
  pub progress_none : progress_of m [] ≡ record { partial = []; found = false }
  progress_none = rw (lines-nil, rest-nil) refl

  -- a key with what comes after it
  text_first : (before : List ℕ) (key : List ℕ) (keys : List (List ℕ)) → before ++ key_lines m (key ∷ keys) ≡ (before ++ key_lines m (key ∷ [])) ++ key_lines m keys
  text_first before key keys =
      sym (append_assoc before (key_line m key) (key_lines m keys)) ∙ ap (λ w. (before ++ w) ++ key_lines m keys) (sym (append-nil (key_line m key)))

  found_first : (b : Bool) (key : List ℕ) (keys : List (List ℕ)) → (b || has_value m (key ∷ keys)) ≡ ((b || has_value m (key ∷ [])) || has_value m keys)
  found_first b key keys = by b (is_some (value_at m key)) (has_value m keys) where
    by : (b x y : Bool) → (b || (x || y)) ≡ ((b || (x || false)) || y)
    by true x y = refl
    by false true y = refl
    by false false y = refl

  -- a line of a piece was taken
  pub comes_down_line : {before now next : List ℕ} {old s t : Progress} {piece left line : List ℕ} (after : List ℕ) → ComesDownTo m before now old s piece left
      → TakesKeys m now next s t (without_return (s.partial ++ line) ∷ []) [] → lines left ≡ line ∷ lines after → rest left ≡ rest after
      → ComesDownTo m before next old t piece after
  comes_down_line {now = now} {s = s} {t = t} {left = left} {line = line} after down took first last =
      let key = without_return (s.partial ++ line) in
      let behind : map without_return (lines after) ≡ keys_ended t.partial after =
      ap (map without_return) (sym (onto_nothing (lines after))) ∙ ap (λ p. keys_ended p after) (sym took.partial_is) in
      let keys : keys_ended s.partial left ≡ key ∷ keys_ended t.partial after =
      ap (λ L. map without_return (onto_line s.partial L)) first ∙ ap (λ K. key ∷ K) behind in
      record {
        text = down.text ∙ ap (λ K. now ++ key_lines m K) keys ∙ text_first now key (keys_ended t.partial after)
            ∙ ap (λ w. w ++ key_lines m (keys_ended t.partial after)) (sym took.text);
        found = down.found ∙ ap (λ K. s.found || has_value m K) keys ∙ found_first s.found key (keys_ended t.partial after)
            ∙ ap (λ b. b || has_value m (keys_ended t.partial after)) (sym took.found);
        partial_is = down.partial_is ∙ ap (λ L. unless_line L (s.partial ++ left) (rest left)) first ∙ last ∙ kept (lines after) refl
            ∙ ap (λ p. partial_after p after) (sym took.partial_is);
      }
    where
      kept : (L : List (List ℕ)) → lines after ≡ L → rest after ≡ unless_line (lines after) after (rest after)
      kept [] none = rest_of_none after none ∙ ap (λ L. unless_line L after (rest after)) (sym none)
      kept (l ∷ L) some = ap (λ L. unless_line L after (rest after)) (sym some)

  -- no line of it is left
  pub comes_down_none : {before now : List ℕ} {old s t : Progress} {piece left : List ℕ} → ComesDownTo m before now old s piece left → lines left ≡ []
      → t.partial ≡ s.partial ++ left → t.found ≡ s.found → TakesKeys m before now old t (keys_ended old.partial piece) (partial_after old.partial piece)
  comes_down_none {now = now} {s = s} {left = left} down none partial found =
      let keys : keys_ended s.partial left ≡ [] = ap (λ L. map without_return (onto_line s.partial L)) none in
      record {
        text = sym (down.text ∙ ap (λ K. now ++ key_lines m K) keys ∙ append-nil now);
        found = found ∙ sym (down.found ∙ ap (λ K. s.found || has_value m K) keys ∙ none_more s.found);
        partial_is = partial ∙ sym (down.partial_is ∙ ap (λ L. unless_line L (s.partial ++ left) (rest left)) none);
      }
    where
      none_more : (b : Bool) → (b || false) ≡ b
      none_more true = refl
      none_more false = refl

  -- two parts of an input
  whole_append : (xs ys : List ℕ) → whole_keys (xs ++ ys) ≡ whole_keys xs ++ keys_ended (rest xs) ys
  whole_append xs ys = ap (map without_return) (lines-append xs ys) ∙ map-append without_return (lines xs) (onto_line (rest xs) (lines ys))

  answered_append : (sinks : Sinks) (xs ys : List (List ℕ)) → answered m ys (answered m xs sinks) ≡ answered m (xs ++ ys) sinks
  answered_append sinks xs ys =
      appended_more sinks (out_text (key_lines m xs)) (out_text (key_lines m ys)) ∙ ap (λ t. appended sinks (out_text t)) (sym (lines_append xs ys))

  pub passed_none : (w : Streams) (s : Progress) → s ≡ record { partial = []; found = false } → Passed m w w s 0
  passed_none w s is = record {
    taken = [];
    is = refl;
    input = takes_none w.input;
    sinks = sym (ap (λ L. answered m (map without_return L) w.sinks) lines-nil ∙ appended_none w.sinks);
    progress_is = is ∙ sym progress_none;
  }

  pub passed_more : {a b c : Streams} {s t : Progress} {n most count : ℕ} → Passed m a b s n → TakesPiece m b c s t most count → Passed m a c t (n + count)
  passed_more {a = a} {s = s} {t = t} p q =
      let partial : s.partial ≡ rest p.taken = ap (λ (x : Progress). x.partial) p.progress_is in
      let keys : whole_keys p.taken ++ keys_ended s.partial q.piece ≡ whole_keys (p.taken ++ q.piece) =
      ap (λ r. whole_keys p.taken ++ keys_ended r q.piece) partial ∙ sym (whole_append p.taken q.piece) in
      record {
        taken = p.taken ++ q.piece;
        is = length-append p.taken q.piece ∙ omega (arith, p.is, q.is);
        input = takes_more p.input q.input;
        sinks = q.sinks ∙ ap (answered m (keys_ended s.partial q.piece)) p.sinks ∙ answered_append a.sinks (whole_keys p.taken) (keys_ended s.partial q.piece)
            ∙ ap (λ K. answered m K a.sinks) keys;
        progress_is = same t (q.partial_is ∙ ap (λ r. partial_after r q.piece) partial ∙ sym (rest-append p.taken q.piece))
            (q.found ∙ ap (λ (x : Progress). x.found || has_value m (keys_ended s.partial q.piece)) p.progress_is
            ∙ sym (has_append (whole_keys p.taken) (keys_ended s.partial q.piece)) ∙ ap (has_value m) keys);
      }
    where
      same : (t : Progress) {partial : List ℕ} {found : Bool} → t.partial ≡ partial → t.found ≡ found → t ≡ record { partial = partial; found = found }
      same t partial found = rw (sym partial, sym found) refl

  -- the ends of the loop
  ended_here : {a b : Streams} (now : Streams) {s : Progress} {n budget : ℕ} (result : Result Ended KeysFault) → Passed m a b s n → n < budget
      → now.input ≡ found_end b.input → IsAtEnd b.input.left → IsEnd m b.sinks now.sinks s result → Answers m budget a now result
  ended_here {a} {b} now {s} (Ok (ended.AtEnd found)) p less end at ends =
      let partial = ap (λ (x : Progress). x.partial) p.progress_is in
      let keys = ap (λ r. whole_keys p.taken ++ last_key r) partial in
      record {
        taken = p.taken;
        mid = b.input;
        input = p.input;
        at_end = at;
        end = end;
        within = omega (arith, p.is, less);
        sinks = ends.sinks ∙ ap (answered m (last_key s.partial)) p.sinks ∙ answered_append a.sinks (whole_keys p.taken) (last_key s.partial)
            ∙ ap (λ K. answered m K a.sinks) keys;
        is = ends.is ∙ ap (λ (x : Progress). x.found || has_value m (last_key s.partial)) p.progress_is ∙ sym (has_append (whole_keys p.taken) (last_key s.partial))
            ∙ ap (has_value m) keys;
      }
  ended_here now (Ok ended.AtBudget) p less end at ends = absurd ends
  ended_here now (Err fault.Input) p less end at ends = absurd ends
  ended_here {a} {b} now {s} (Err (fault.Sink why)) p less end at ends = inr (record {
    taken = p.taken;
    mid = b.input;
    input = p.input;
    at_end = at;
    end = end;
    within = omega (arith, p.is, less);
    stops = rw (p.sinks, p.progress_is) at ends;
  })

  -- a read found the end, and the last key was answered
  pub ends_here : {k : Meaning} → m ≡ k → {a b : Streams} (mid now : Streams) {s : Progress} (t : Progress) (l : Meaning) {n budget : ℕ} (result : Result Ended KeysFault)
      → Passed m a b s n → n < budget → mid ≡ record b { input = found_end b.input } → t ≡ s → l ≡ m → IsAtEnd b.input.left → now.input ≡ mid.input
      → IsEnd l mid.sinks now.sinks t result → Answers k budget a now result
  ends_here same {a} {b} mid now {s} t l {n} {budget} result p less end still means at input ends =
      let first = subst (λ x. IsEnd x mid.sinks now.sinks t result) means ends in
      let second = subst (λ x. IsEnd m mid.sinks now.sinks x result) still first in
      let third = subst (λ (w : Streams). IsEnd m w.sinks now.sinks s result) end second in
      subst (λ x. Answers x budget a now result) same (ended_here now result p less (input ∙ ap (λ (w : Streams). w.input) end) at third)

  pub budget_here : {k : Meaning} → m ≡ k → {a b : Streams} {s : Progress} {n budget : ℕ} → Passed m a b s n → n ≡ budget → AnswersBudget k budget a b
  budget_here same {a} {b} {budget = budget} p all =
      subst (λ x. AnswersBudget x budget a b) same (record { taken = p.taken; input = p.input; all = p.is ∙ all; sinks = p.sinks })

  faulted_here : {a b : Streams} (now : Streams) {s : Progress} (t : Progress) {n most budget : ℕ} (why : KeysFault) → Passed m a b s n → n < budget → most ≤ 4096 → n + most ≤ budget
      → IsTurn m b now s t most (Err why) → Answers m budget a now (Err why)
  faulted_here {b = b} now t fault.Input p less few within broken = record {
    taken = p.taken;
    mid = b.input;
    input = p.input;
    broken = ap (λ w. w.input) broken;
    within = omega (arith, p.is, less);
    sinks = ap (λ w. w.sinks) broken ∙ p.sinks;
  }
  faulted_here {b = b} now {s = s} t (fault.Sink why) p less few within stops =
      let partial = ap (λ (x : Progress). x.partial) p.progress_is in
      inl (record {
        earlier = p.taken;
        piece = stops.piece;
        few = omega (arith, stops.few, few);
        within = omega (arith, p.is, stops.few, within);
        input = takes_more p.input stops.input;
        text = key_lines m (keys_ended s.partial stops.piece);
        adds = ap (key_lines m) (whole_append p.taken stops.piece) ∙ lines_append (whole_keys p.taken) (keys_ended (rest p.taken) stops.piece)
            ∙ ap (λ r. key_lines m (whole_keys p.taken) ++ key_lines m (keys_ended r stops.piece)) (sym partial);
        stops = rw p.sinks at stops.stops;
      })

  pub fault_here : {k : Meaning} → m ≡ k → {a b : Streams} (now : Streams) {s : Progress} (t : Progress) {n most budget : ℕ} (why : KeysFault) → Passed m a b s n → n < budget
      → most ≤ 4096 → n + most ≤ budget → IsTurn m b now s t most (Err why) → Answers k budget a now (Err why)
  fault_here same {a} now t {budget = budget} why p less few within turn =
      subst (λ x. Answers x budget a now (Err why)) same (faulted_here now t why p less few within turn)

-- what was answered by a table, by the same table
pub passed_means : {m k : Meaning} {a b : Streams} {s : Progress} {n : ℕ} → k ≡ m → Passed m a b s n → Passed k a b s n
passed_means {a = a} {b = b} {s = s} {n = n} same p = subst (λ x. Passed x a b s n) (sym same) p
