-- Tables that are opened in turn.
use Rattle.std.proofs.Common.{◌≡◌, ◌≢◌, ◌++◌, ◌+◌, ◌||◌, ℕ, zero, suc, drop, map, Bool, false, List, [], ◌∷◌, Option, None, Some, Result, Ok, Err, is_some, inl, refl, sym, ap, ◌∙◌, subst, append_assoc, append-nil, arith}
use Rattle.std.specs.Prelude.{slice_get, IfErr}
use Rattle.pf_base.specs.Outside.Counts.{counted}
use Rattle.pf_base.specs.Results.{◌>>=◌}
use Rattle.pf_base.specs.Outside.Known.{Tree}
use Rattle.pf_base.specs.declared.pair.Pair.{Pair}
use Rattle.pf_base.specs.Clauses.Faults.{as_fault}
use Rattle.pf_base.specs.Clauses.Unless.{Unless}
use Rattle.pf_base.specs.declared.refused.ConfFault.{ConfFault}
use Rattle.pf_base.specs.declared.refused.ConfFault.TheVariants as conf_fault
use Rattle.pf_base.specs.declared.refused.Refused.{Refused}
use Rattle.pf_base.specs.declared.table_texts.TableText.{TableText}
use Rattle.pf_asks.proofs.HeldLaws.{counted_none}
use Rattle.pf_asks.specs.Clauses.Causes.{counted_if}
use Rattle.pf_maps.proofs.OpenLaws.{answers_so, kept_none, not_memory, ok_said, refusal_said, refuses_so}
use Rattle.pf_maps.proofs.SizeLaws.{Small}
use Rattle.pf_maps.specs.Clauses.Opened.{CountedBy, Kept, LeavesBy, Opens, OpensWith, Says, fault_of, held_as, is_of_size, names_size}
use Rattle.pf_maps.specs.Opening.{Unopened, at_first, at_others, has_failed, in_turn, refusing}
use Rattle.pf_maps.specs.Opening.{Event as events}
use Rattle.pf_maps.specs.Opening.{Unopened as unopened}
use Rattle.pf_maps.specs.declared.opening.OpenFault.{OpenFault}
use Rattle.pf_maps.specs.declared.opening.OpenFault.TheVariants as open_fault

-- a refusal that names no size is not counted
pub small_counts : (old : ℕ) (size : Bool) → size ≡ false → old ≡ counted_if size old
small_counts old size small = counted_none old ∙ ap (λ t. counted_if t old) (sym small)

pub no_event : (size : Bool) → size ≡ false → false ≡ (size || false)
no_event size small = ap (λ t. t || false) (sym small)

-- one table that is no table of patterns
pub opens_file : {A : Type 0} (before now : Tree) (old : ℕ) (says : Bool → List Pair → Result A Unopened) (result : Result A OpenFault)
    → Opens before now says result → IfErr result (λ fault. names_size fault ≡ false) → OpensWith before now old old (λ event all. says (has_failed event) all) result
opens_file before now old says (Ok x) opens small = record { event = None; known = opens.known; leaves = opens.leaves; counts = refl; names = refl }
opens_file before now old says (Err (open_fault.Refused refusal)) opens small = record {
  event = None;
  known = opens.known;
  leaves = opens.leaves;
  counts = small_counts old (is_of_size refusal) small;
  names = no_event (is_of_size refusal) small;
}
opens_file before now old says (Err (open_fault.Failed name)) opens small = record {
  event = Some events.read_fails;
  known = opens.known;
  leaves = opens.leaves;
  counts = refl;
  names = refl;
}
opens_file before now old says (Err open_fault.NoMemory) opens small = record {
  event = None;
  known = opens.known;
  leaves = opens.leaves;
  counts = inl refl;
  names = refl;
}

-- what is made without files
pub opens_plain : {A L : Type 0} (tree : Tree) (old : ℕ) (says : Option L → List Pair → Result A Unopened) (x : A) → ((all : List Pair) → says None all ≡ Ok x)
    → OpensWith tree tree old old says (Ok x)
opens_plain tree old says x is = record { event = None; known = λ all known. is all; leaves = kept_none tree; counts = refl; names = refl }

pub opens_held : {A L : Type 0} (tree : Tree) (old : ℕ) (answer : Result A Refused) (result : Result A ConfFault)
    → Small answer → Unless result conf_fault.NoMemory (λ r. r ≡ as_fault answer) → OpensWith tree tree old old (λ (event : Option L) all. refusing answer) (held_as result)
opens_held tree old answer (Ok x) small is =
    opens_plain tree old (λ event all. refusing answer) x (λ all. ap refusing (ok_said answer x is))
opens_held tree old answer (Err (conf_fault.Refused refusal)) small is =
    let said = refusal_said answer refusal (is (not_memory refusal)) in
    record {
      event = None;
      known = λ all known. ap refusing said;
      leaves = kept_none tree;
      counts = small_counts old (is_of_size refusal) (small refusal said);
      names = no_event (is_of_size refusal) (small refusal said);
    }
opens_held tree old answer (Err conf_fault.NoMemory) small is = record {
  event = None;
  known = λ all known. tt;
  leaves = kept_none tree;
  counts = inl refl;
  names = refl;
}

-- what is refused before files
pub opens_not : {A B L : Type 0} (tree : Tree) (old : ℕ) (answer : Result B Refused) (f : Option L → List Pair → B → Result A Unopened) (fault : ConfFault)
    → Small answer → (fault ≢ conf_fault.NoMemory → Err fault ≡ as_fault answer) → OpensWith tree tree old old (λ event all. refusing answer >>= f event all) (Err (fault_of fault))
opens_not tree old answer f (conf_fault.Refused refusal) small is =
    let said = refusal_said answer refusal (is (not_memory refusal)) in
    record {
      event = None;
      known = λ all known. refuses_so answer (f None all) refusal said;
      leaves = kept_none tree;
      counts = small_counts old (is_of_size refusal) (small refusal said);
      names = no_event (is_of_size refusal) (small refusal said);
    }
opens_not tree old answer f conf_fault.NoMemory small is = record {
  event = None;
  known = λ all known. tt;
  leaves = kept_none tree;
  counts = inl refl;
  names = refl;
}

-- what is asked before files, and the call that its answer asks
pub opens_after : {A B L : Type 0} (a b : Tree) (old new : ℕ) (answer : Result B Refused) (f : Option L → List Pair → B → Result A Unopened) (x : B) (result : Result A OpenFault)
    → Ok x ≡ as_fault answer → OpensWith a b old new (λ event all. f event all x) result → OpensWith a b old new (λ event all. refusing answer >>= f event all) result
opens_after a b old new answer f x result is opens = record {
  event = opens.event;
  known = λ all known. subst (λ (r : Result _ Unopened). Says r result) (sym (answers_so answer (f opens.event all) x (ok_said answer x is))) (opens.known all known);
  leaves = opens.leaves;
  counts = opens.counts;
  names = opens.names;
}

-- the event of the others is that of all, one place further
abbrev pub one_further : {L : Type 0} → Option (ℕ × L) → Option (ℕ × L)
one_further None = None
one_further (Some event) = Some (suc event.0, event.1)

abbrev pub here : {L : Type 0} → Option L → Option (ℕ × L)
here None = None
here (Some event) = Some (0, event)

first_further : {L : Type 0} (event : Option (ℕ × L)) → at_first (one_further event) ≡ None
first_further None = refl
first_further (Some event) = refl

others_further : {L : Type 0} (event : Option (ℕ × L)) → at_others (one_further event) ≡ event
others_further None = refl
others_further (Some event) = refl

some_further : {L : Type 0} (event : Option (ℕ × L)) → is_some (one_further event) ≡ is_some event
some_further None = refl
some_further (Some event) = refl

first_here : {L : Type 0} (event : Option L) → at_first (here event) ≡ event
first_here None = refl
first_here (Some event) = refl

some_here : {L : Type 0} (event : Option L) → is_some (here event) ≡ is_some event
some_here None = refl
some_here (Some event) = refl

is_none : {L : Type 0} (event : Option L) → is_some event ≡ false → event ≡ None
is_none None e = refl
is_none (Some event) e = cc

-- a list is opened so far: what the files say of it comes down to what they say of the rest, and nothing happened yet
pub record OpensUpTo {A L : Type 0} (old now : Tree) (before after : ℕ) (says rest : Option (ℕ × L) → List Pair → Result (List A) Unopened) (opened : List A) : Type 0 where
  pub kept : Kept old now
  pub count : after ≡ before
  pub whole : Option (ℕ × L) → Option (ℕ × L)
  pub some : (event : Option (ℕ × L)) → is_some (whole event) ≡ is_some event
  pub is : (event : Option (ℕ × L)) (all : List Pair) → old.content ≡ Some all → says (whole event) all ≡ (rest event all >>= λ more. Ok (opened ++ more))

with_none : {A : Type 0} (answer : Result (List A) Unopened) → answer ≡ (answer >>= λ more. Ok ([] ++ more))
with_none (Ok more) = refl
with_none (Err why) = refl

pub up_to_none : {A L : Type 0} (old : Tree) (before : ℕ) (says : Option (ℕ × L) → List Pair → Result (List A) Unopened) → OpensUpTo old old before before says says []
up_to_none old before says = record {
  kept = kept_none old;
  count = refl;
  whole = λ event. event;
  some = λ event. refl;
  is = λ event all known. with_none (says event all);
}

-- one more
one_more : {A : Type 0} (opened : List A) (x : A) (rest : Result (List A) Unopened)
    → ((rest >>= λ more. Ok (x ∷ more)) >>= λ more. Ok (opened ++ more)) ≡ (rest >>= λ more. Ok ((opened ++ x ∷ []) ++ more))
one_more opened x (Ok more) = ap Ok (sym (append_assoc opened (x ∷ []) more))
one_more opened x (Err why) = refl

stepped : {A : Type 0} (opened : List A) (x : A) (step : Result A Unopened) (rest : Result (List A) Unopened) → step ≡ Ok x
    → ((step >>= λ one. rest >>= λ more. Ok (one ∷ more)) >>= λ more. Ok (opened ++ more)) ≡ (rest >>= λ more. Ok ((opened ++ x ∷ []) ++ more))
stepped opened x step rest is = rw is (one_more opened x rest)

-- what the items from here on say, one by one
abbrev pub First : {A B L : Type 0} → (List Pair → Option L → A → Result B Unopened) → A → List A → Option (ℕ × L) → List Pair → Result (List B) Unopened
First opens_one one others event all = opens_one all (at_first event) one >>= λ x. in_turn (opens_one all) (at_others event) others >>= λ more. Ok (x ∷ more)

pub up_to_next : {A B L : Type 0} {old now next : Tree} {before after last : ℕ} {says : Option (ℕ × L) → List Pair → Result (List B) Unopened} {opened : List B}
    (opens_one : List Pair → Option L → A → Result B Unopened) (one : A) (others : List A) (x : B)
    → OpensUpTo old now before after says (First opens_one one others) opened → OpensWith now next after last (λ event all. opens_one all event one) (Ok x)
    → OpensUpTo old next before last says (λ event all. in_turn (opens_one all) event others) (opened ++ x ∷ [])
up_to_next {opened = opened} opens_one one others x so step = record {
  kept = (step.leaves.0 ∙ so.kept.0, step.leaves.1 ∙ so.kept.1);
  count = step.counts ∙ so.count;
  whole = λ event. so.whole (one_further event);
  some = λ event. so.some (one_further event) ∙ some_further event;
  is = λ event all known. so.is (one_further event) all known
      ∙ ap (λ others_at. (opens_one all (at_first (one_further event)) one >>= λ y. in_turn (opens_one all) others_at others >>= λ more. Ok (y ∷ more)) >>= λ more. Ok (opened ++ more)) (others_further event)
      ∙ stepped opened x (opens_one all (at_first (one_further event)) one) (in_turn (opens_one all) event others)
      (ap (λ here. opens_one all here one) (first_further event ∙ sym (is_none step.event step.names)) ∙ step.known all (so.kept.0 ∙ known));
}

-- one that is not opened
stopped : {A : Type 0} (opened : List A) (why : Unopened) (step : Result A Unopened) (rest : Result (List A) Unopened) → step ≡ Err why
    → ((step >>= λ one. rest >>= λ more. Ok (one ∷ more)) >>= λ more. Ok (opened ++ more)) ≡ Err why
stopped opened why step rest is = rw is refl

counted_on : (before after last : ℕ) (fault : OpenFault) → after ≡ before → CountedBy after last fault → CountedBy before last fault
counted_on before after last fault same counts = subst (λ n. CountedBy n last fault) same counts

left_on : (a b c : Tree) (fault : OpenFault) → Kept a b → LeavesBy b c fault → LeavesBy a c fault
left_on a b c (open_fault.Refused refusal) kept leaves = (leaves.0 ∙ kept.0, leaves.1 ∙ kept.1)
left_on a b c (open_fault.Failed name) kept leaves = (leaves.0 ∙ kept.0, leaves.1 ∙ ap counted kept.1)
left_on a b c open_fault.NoMemory kept leaves = (leaves.0 ∙ kept.0, leaves.1 ∙ kept.1)

pub up_to_stop : {A B L : Type 0} {old now next : Tree} {before after last : ℕ} {says : Option (ℕ × L) → List Pair → Result (List B) Unopened} {opened : List B}
    (opens_one : List Pair → Option L → A → Result B Unopened) (one : A) (others : List A) (fault : OpenFault)
    → OpensUpTo old now before after says (First opens_one one others) opened → OpensWith now next after last (λ event all. opens_one all event one) (Err fault)
    → OpensWith old next before last says (Err fault)
up_to_stop {old = old} {now = now} {next = next} {before = before} {after = after} {last = last} {says = says} {opened = opened} opens_one one others fault so step = record {
  event = so.whole (here step.event);
  known = λ all known. by fault all (so.is (here step.event) all known) (step.known all (so.kept.0 ∙ known));
  leaves = left_on old now next fault so.kept step.leaves;
  counts = counted_on before after last fault so.count step.counts;
  names = so.some (here step.event) ∙ some_here step.event ∙ step.names;
}
  where
    over : (why : Unopened) (all : List Pair) → says (so.whole (here step.event)) all ≡ (First opens_one one others (here step.event) all >>= λ more. Ok (opened ++ more))
        → opens_one all step.event one ≡ Err why → says (so.whole (here step.event)) all ≡ Err why
    over why all is said =
        is ∙ stopped opened why (opens_one all (at_first (here step.event)) one) (in_turn (opens_one all) (at_others (here step.event)) others)
        (ap (λ event. opens_one all event one) (first_here step.event) ∙ said)

    by : (f : OpenFault) (all : List Pair)
        → says (so.whole (here step.event)) all ≡ (First opens_one one others (here step.event) all >>= λ more. Ok (opened ++ more))
        → Says (opens_one all step.event one) (Err f) → Says (says (so.whole (here step.event)) all) (Err f)
    by (open_fault.Refused refusal) all is said = over (unopened.refuses refusal) all is said
    by (open_fault.Failed name) all is said = over (unopened.fails name) all is said
    by open_fault.NoMemory all is said = tt

-- all of it
pub up_to_end : {A L : Type 0} {old now : Tree} {before after : ℕ} {says rest : Option (ℕ × L) → List Pair → Result (List A) Unopened} {opened : List A}
    → OpensUpTo old now before after says rest opened → ((all : List Pair) → rest None all ≡ Ok []) → OpensWith old now before after says (Ok opened)
up_to_end {opened = opened} so none = record {
  event = so.whole None;
  known = λ all known. so.is None all known ∙ ap (λ answer. answer >>= λ more. Ok (opened ++ more)) (none all) ∙ ap Ok (append-nil opened);
  leaves = so.kept;
  counts = so.count;
  names = so.some None;
}

pub up_to_break : {A L : Type 0} {old now : Tree} {before after : ℕ} {says rest : Option (ℕ × L) → List Pair → Result (List A) Unopened} {opened : List A}
    → OpensUpTo old now before after says rest opened → OpensWith old now before after says (Err open_fault.NoMemory)
up_to_break so = record {
  event = None;
  known = λ all known. tt;
  leaves = so.kept;
  counts = inl so.count;
  names = refl;
}

pub up_to_starved : {A B L : Type 0} {old now next : Tree} {before after last : ℕ} {says rest : Option (ℕ × L) → List Pair → Result (List B) Unopened} {opened : List B}
    (opens_one : List Pair → Option L → A → Result B Unopened) (one : A) (x : B)
    → OpensUpTo old now before after says rest opened → OpensWith now next after last (λ event all. opens_one all event one) (Ok x)
    → OpensWith old next before last says (Err open_fault.NoMemory)
up_to_starved opens_one one x so step = record {
  event = None;
  known = λ all known. tt;
  leaves = (step.leaves.0 ∙ so.kept.0, step.leaves.1 ∙ so.kept.1);
  counts = inl (step.counts ∙ so.count);
  names = refl;
}

-- the text at a place
abbrev with_first : ℕ → List ℕ → List TableText → List TableText
with_first line text texts = record { line = line; text = text } ∷ texts

pub text_at : (texts : List TableText) (i line : ℕ) (text : List ℕ) → slice_get (map (λ one. one.line) texts) i ≡ Some line → slice_get (map (λ one. one.text) texts) i ≡ Some text
    → drop i texts ≡ record { line = line; text = text } ∷ drop (i + 1) texts
text_at [] i line text l t = cc
text_at (one ∷ texts) zero line text l t =
    let e : one.line ≡ line = cc in
    let f : one.text ≡ text = cc in
    ap (λ n. with_first n one.text texts) e ∙ ap (λ u. with_first line u texts) f
text_at (one ∷ texts) (suc i) line text l t =
    let e : suc (i + 1) ≡ suc i + 1 = omega arith in
    text_at texts i line text l t ∙ ap (λ n. with_first line text (drop n (one ∷ texts))) e
