-- Tables that are opened from one file, or from none.
use Rattle.std.proofs.Common.{◌≡◌, ◌≢◌, ℕ, Bool, true, false, List, Option, None, Some, Result, Ok, Err, refl, sym, ap, ◌∙◌}
use Rattle.std.proofs.lemmas.Str.{IsUtf8-from_is_utf8, is_utf8-from_IsUtf8}
use Rattle.std.specs.Prelude.{if◌then◌else◌}
use Rattle.std.specs.Str.{IsUtf8, is_utf8}
use Rattle.pf_base.specs.Outside.FileList.{file_of, whole_file}
use Rattle.pf_base.specs.Results.{◌>>=◌}
use Rattle.pf_base.specs.Outside.Known.{Tree, failed_tree}
use Rattle.pf_base.specs.declared.pair.Pair.{Pair}
use Rattle.pf_base.specs.declared.outside.reading.ReadFault.{ReadFault}
use Rattle.pf_base.specs.declared.outside.reading.ReadFault.TheVariants.{TooLarge}
use Rattle.pf_base.specs.declared.refused.Cause.TheVariants.{C10, C15}
use Rattle.pf_base.specs.declared.refused.ConfFault.{ConfFault}
use Rattle.pf_base.specs.declared.refused.ConfFault.TheVariants as conf_fault
use Rattle.pf_base.specs.declared.refused.Refused.{Refused}
use Rattle.pf_base.specs.Clauses.Faults.{as_fault}
use Rattle.pf_base.specs.Refusal.{refused}
use Rattle.pf_maps.specs.Clauses.Opened.{Kept, Opens, Says, fault_of}
use Rattle.pf_maps.specs.Opening.{Unopened, refusing, table_text, text_or_refused, unless_failed}
use Rattle.pf_maps.specs.Opening.{Unopened as unopened}
use Rattle.pf_maps.specs.declared.opening.OpenFault.{OpenFault}
use Rattle.pf_maps.specs.declared.opening.OpenFault.TheVariants as open_fault
use Rattle.pf_maps.specs.declared.opening.Place.{Place}

-- nothing was read
pub kept_none : (tree : Tree) → Kept tree tree
kept_none tree = (refl, refl)

-- it was out of memory
pub opens_starved : {A : Type 0} (before now : Tree) (says : Bool → List Pair → Result A Unopened) → Kept before now → Opens before now says (Err open_fault.NoMemory)
opens_starved before now says kept = record { known = λ all known. tt; leaves = kept }

-- an answer, and what is made of it
pub says_next : {A B : Type 0} (answer : Result A Unopened) (f : A → Result B Unopened) (x : A) (result : Result B OpenFault) → answer ≡ Ok x → Says (f x) result → Says (answer >>= f) result
says_next answer f x result is says = rw is says

pub stays : {A B : Type 0} (answer : Result A Unopened) (f : A → Result B Unopened) (why : Unopened) → answer ≡ Err why → (answer >>= f) ≡ Err why
stays answer f why is = rw is refl

-- a refusal
pub refusal_said : {A : Type 0} (answer : Result A Refused) (refusal : Refused) → Err (conf_fault.Refused refusal) ≡ as_fault answer → answer ≡ Err refusal
refusal_said (Ok x) refusal is = cc
refusal_said (Err other) refusal is = let e : refusal ≡ other = cc in ap Err (sym e)

pub ok_said : {A : Type 0} (answer : Result A Refused) (x : A) → Ok x ≡ as_fault answer → answer ≡ Ok x
ok_said (Ok y) x is = let e : x ≡ y = cc in ap Ok (sym e)
ok_said (Err refusal) x is = cc

pub not_memory : (refusal : Refused) → conf_fault.Refused refusal ≢ conf_fault.NoMemory
not_memory refusal e = cc

pub refuses_so : {A B : Type 0} (answer : Result A Refused) (f : A → Result B Unopened) (refusal : Refused) → answer ≡ Err refusal
    → (refusing answer >>= f) ≡ Err (unopened.refuses refusal)
refuses_so answer f refusal is = rw is refl

pub answers_so : {A B : Type 0} (answer : Result A Refused) (f : A → Result B Unopened) (x : A) → answer ≡ Ok x → (refusing answer >>= f) ≡ f x
answers_so answer f x is = rw is refl

-- a file was read, and its text says what is there
pub opens_done : {A B C : Type 0} {a b : Tree} {says : Bool → List Pair → Result A Unopened} (answer : A → Result B Refused) (h : B → Result C Unopened) (x : A) (y : B) (z : C)
    → Opens a b says (Ok x) → Ok y ≡ as_fault (answer x) → h y ≡ Ok z → Opens a b (λ failed all. says failed all >>= λ x. refusing (answer x) >>= h) (Ok z)
opens_done {says = says} answer h x y z first is made = record {
  known = λ all known. says_next (says false all) (λ x. refusing (answer x) >>= h) x (Ok z) (first.known all known)
      (answers_so (answer x) h y (ok_said (answer x) y is) ∙ made);
  leaves = first.leaves;
}

-- its text is refused
pub opens_undone : {A B C : Type 0} {a b : Tree} {says : Bool → List Pair → Result A Unopened} (answer : A → Result B Refused) (h : B → Result C Unopened) (x : A) (fault : ConfFault)
    → Opens a b says (Ok x) → (fault ≢ conf_fault.NoMemory → Err fault ≡ as_fault (answer x))
    → Opens a b (λ failed all. says failed all >>= λ x. refusing (answer x) >>= h) (Err (fault_of fault))
opens_undone {says = says} answer h x (conf_fault.Refused refusal) first is = record {
  known = λ all known. says_next (says false all) (λ x. refusing (answer x) >>= h) x (Err (open_fault.Refused refusal)) (first.known all known)
      (refuses_so (answer x) h refusal (refusal_said (answer x) refusal (is (not_memory refusal))));
  leaves = first.leaves;
}
opens_undone answer h x conf_fault.NoMemory first is = record { known = λ all known. tt; leaves = first.leaves }

-- it was not read
pub opens_stop : {A B : Type 0} {a b : Tree} {says : Bool → List Pair → Result A Unopened} (f : A → Result B Unopened) (fault : OpenFault)
    → Opens a b says (Err fault) → Opens a b (λ failed all. says failed all >>= f) (Err fault)
opens_stop {says = says} f (open_fault.Refused refusal) first = record {
  known = λ all known. stays (says false all) f (unopened.refuses refusal) (first.known all known);
  leaves = first.leaves;
}
opens_stop {says = says} f (open_fault.Failed name) first = record {
  known = λ all known. stays (says true all) f (unopened.fails name) (first.known all known);
  leaves = first.leaves;
}
opens_stop f open_fault.NoMemory first = record { known = λ all known. tt; leaves = first.leaves }

-- the refusal of a file
pub opens_refused : {A : Type 0} (before now : Tree) (says : Bool → List Pair → Result A Unopened) (refusal : Refused) (fault : ConfFault) → Kept before now
    → (fault ≢ conf_fault.NoMemory → fault ≡ conf_fault.Refused refusal) → ((all : List Pair) → before.content ≡ Some all → says false all ≡ Err (unopened.refuses refusal))
    → Opens before now says (Err (fault_of fault))
opens_refused before now says refusal (conf_fault.Refused other) kept is said =
    let made : conf_fault.Refused other ≡ conf_fault.Refused refusal = is (not_memory other) in
    let e : refusal ≡ other = cc in
    record { known = λ all known. said all known ∙ ap (λ r. Err (unopened.refuses r)) e; leaves = kept }
opens_refused before now says refusal conf_fault.NoMemory kept is said = record { known = λ all known. tt; leaves = kept }

-- the text of a file
pub no_name : (all : List Pair) (place : Place) (name : List ℕ) → ¬ (IsUtf8 name) → table_text false all place name ≡ Err (unopened.refuses (refused place.file place.line C10 name))
no_name all place name no_text = by_test (is_utf8 name) refl
  where
    by_test : (t : Bool) → is_utf8 name ≡ t
        → (if t then unless_failed false all place name else Err (unopened.refuses (refused place.file place.line C10 name))) ≡ Err (unopened.refuses (refused place.file place.line C10 name))
    by_test true is = absurd (no_text (IsUtf8-from_is_utf8 name is))
    by_test false is = refl

by_name : (failed : Bool) (all : List Pair) (place : Place) (name : List ℕ) → IsUtf8 name → table_text failed all place name ≡ unless_failed failed all place name
by_name failed all place name text =
    ap (λ t. if t then unless_failed failed all place name else Err (unopened.refuses (refused place.file place.line C10 name))) (is_utf8-from_IsUtf8 name text)

by_read : (all : List Pair) (place : Place) (name : List ℕ) (answer : Result (Option (List ℕ)) ReadFault) → IsUtf8 name → whole_file (file_of all name) ≡ answer
    → table_text false all place name ≡ refusing (text_or_refused place name answer)
by_read all place name answer text read = by_name false all place name text ∙ ap (λ a. refusing (text_or_refused place name a)) read

-- a file that is there, one that is not, one that is too large, and one that is not read
pub opens_text : (before now : Tree) (place : Place) (name : List ℕ) (found : Option (List ℕ)) (bytes : List ℕ) → IsUtf8 name → found ≡ Some bytes
    → ((all : List Pair) → before.content ≡ Some all → whole_file (file_of all name) ≡ Ok found) → Kept before now
    → Opens before now (λ failed all. table_text failed all place name) (Ok bytes)
opens_text before now place name found bytes text is read kept = record {
  known = λ all known. by_read all place name (Ok found) text (read all known) ∙ ap (λ o. refusing (text_or_refused place name (Ok o))) is;
  leaves = kept;
}

pub opens_absent : (before now : Tree) (place : Place) (name : List ℕ) (found : Option (List ℕ)) (fault : ConfFault) → IsUtf8 name → found ≡ None
    → ((all : List Pair) → before.content ≡ Some all → whole_file (file_of all name) ≡ Ok found) → Kept before now
    → (fault ≢ conf_fault.NoMemory → fault ≡ conf_fault.Refused (refused place.file place.line C10 name))
    → Opens before now (λ failed all. table_text failed all place name) (Err (fault_of fault))
opens_absent before now place name found fault text none read kept is =
    opens_refused before now (λ failed all. table_text failed all place name) (refused place.file place.line C10 name) fault kept is
    (λ all known. by_read all place name (Ok found) text (read all known) ∙ ap (λ o. refusing (text_or_refused place name (Ok o))) none)

pub opens_large : (before now : Tree) (place : Place) (name : List ℕ) (fault : ConfFault) → IsUtf8 name
    → ((all : List Pair) → before.content ≡ Some all → whole_file (file_of all name) ≡ Err TooLarge) → Kept before now
    → (fault ≢ conf_fault.NoMemory → fault ≡ conf_fault.Refused (refused place.file place.line C15 name))
    → Opens before now (λ failed all. table_text failed all place name) (Err (fault_of fault))
opens_large before now place name fault text read kept is =
    opens_refused before now (λ failed all. table_text failed all place name) (refused place.file place.line C15 name) fault kept is
    (λ all known. by_read all place name (Err TooLarge) text (read all known))

pub opens_failed : (before now : Tree) (place : Place) (name file : List ℕ) → IsUtf8 name → file ≡ name → Kept (failed_tree before) now
    → Opens before now (λ failed all. table_text failed all place name) (Err (open_fault.Failed file))
opens_failed before now place name file text is kept = record {
  known = λ all known. by_name true all place name text ∙ ap (λ n. Err (unopened.fails n)) (sym is);
  leaves = kept;
}
