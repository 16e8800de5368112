-- Tables of patterns that are opened.
use Rattle.std.proofs.Common.{◌≡◌, ◌≢◌, ◌⊎◌, ◌||◌, ℕ, Bool, true, false, List, Option, None, Some, Result, Ok, Err, is_some, inl, inr, refl, sym, ap, ◌∙◌}
use Rattle.pf_base.specs.Results.{◌>>=◌}
use Rattle.pf_base.specs.Outside.Known.{Tree}
use Rattle.pf_base.specs.declared.pair.Pair.{Pair}
use Rattle.pf_base.specs.declared.refused.ConfFault.{ConfFault}
use Rattle.pf_base.specs.declared.refused.ConfFault.TheVariants as conf_fault
use Rattle.pf_base.specs.declared.refused.Refused.{Refused}
use Rattle.pf_asks.proofs.HeldLaws.{counted_none}
use Rattle.pf_asks.specs.Clauses.Causes.{counted_if}
use Rattle.pf_pcre.specs.Clauses.Reading as reading
use Rattle.pf_pcre.specs.Clauses.Reading.{CountsOnce, IsTableOf, as_conf_fault}
use Rattle.pf_pcre.specs.Tables.{table_of}
use Rattle.pf_maps.proofs.OpenLaws.{not_memory, refuses_so, stays}
use Rattle.pf_maps.proofs.SizeLaws.{pattern_named}
use Rattle.pf_maps.proofs.TurnLaws.{no_event, small_counts}
use Rattle.pf_maps.specs.Clauses.Opened.{Opens, OpensWith, fault_of, is_of_size, names_size}
use Rattle.pf_maps.specs.Opening.{Event, Unopened, pcre_opened, refusing, table_text}
use Rattle.pf_maps.specs.Opening.{Event as events}
use Rattle.pf_maps.specs.Opening.{Unopened as unopened}
use Rattle.pf_maps.specs.declared.node.Node.{Node}
use Rattle.pf_maps.specs.declared.node.Node.TheVariants as node
use Rattle.pf_maps.specs.declared.opening.OpenFault.{OpenFault}
use Rattle.pf_maps.specs.declared.opening.OpenFault.TheVariants as open_fault
use Rattle.pf_maps.specs.declared.opening.Place.{Place}

-- what happened at a table whose pattern at this line is too large, if one is
abbrev pub at_line : Option ℕ → Option Event
at_line None = None
at_line (Some line) = Some (events.too_large line)

is_there : (large : Option ℕ) → is_some (at_line large) ≡ is_some large
is_there None = refl
is_there (Some line) = refl

-- the table of a text, as the definition makes it of a file that was read
abbrev pub in_text : Option ℕ → List ℕ → List ℕ → Result Node Unopened
in_text large name text = refusing (table_of large name text) >>= λ table. Ok (node.Pcre table)

in_file : (large : Option ℕ) (all : List Pair) (place : Place) (name text : List ℕ) → table_text false all place name ≡ Ok text
    → pcre_opened (at_line large) all place name ≡ in_text large name text
in_file None all place name text is = rw is refl
in_file (Some line) all place name text is = rw is refl

-- the table that was read
there : (answer : Result (List _) Refused) (table : List _) → Ok table ≡ as_conf_fault answer → (refusing answer >>= λ t. Ok (node.Pcre t)) ≡ Ok (node.Pcre table)
there (Ok other) table is = let e : other ≡ table = cc in ap (λ t. Ok (node.Pcre t)) e
there (Err refusal) table is = cc

pub opens_pattern : (before now : Tree) (old new : ℕ) (place : Place) (name text : List ℕ) (table : List _)
    → Opens before now (λ failed all. table_text failed all place name) (Ok text) → IsTableOf (λ large. table_of large name text) (Ok table)
    → new ≡ counted_if (reading.names_size (Ok table)) old
    → OpensWith before now old new (λ event all. pcre_opened event all place name) (Ok (node.Pcre table))
opens_pattern before now old new place name text table opened is counts = record {
  event = at_line is.0;
  known = λ all known. in_file is.0 all place name text (opened.known all known) ∙ there (table_of is.0 name text) table is.1;
  leaves = opened.leaves;
  counts = counts ∙ sym (counted_none old);
  names = is_there is.0 ∙ is.2;
}

refused_so : {A : Type 0} (answer : Result A Refused) (refusal : Refused) → Err (conf_fault.Refused refusal) ≡ as_conf_fault answer → answer ≡ Err refusal
refused_so (Ok table) refusal is = cc
refused_so (Err other) refusal is = let e : other ≡ refusal = cc in ap Err e

or_failed : (size : Bool) → size ≡ (size || false)
or_failed true = refl
or_failed false = refl

-- the count rose at most once
at_most_once : {A : Type 0} {B : A → Type 0} {C : Type 0} {D : Type 0} → C ⊎ ((x : A) × B x × D) → C ⊎ D
at_most_once (inl same) = inl same
at_most_once (inr rose) = inr rose.2

-- its text is refused
pub opens_no_pattern : (before now : Tree) (old new : ℕ) (place : Place) (name text : List ℕ) (fault : ConfFault)
    → Opens before now (λ failed all. table_text failed all place name) (Ok text)
    → (fault ≢ conf_fault.NoMemory → IsTableOf (λ large. table_of large name text) (Err fault))
    → (fault ≢ conf_fault.NoMemory → new ≡ counted_if (reading.names_size {A = ℕ} (Err fault)) old) → CountsOnce (λ large. table_of large name text) old new
    → OpensWith before now old new (λ event all. pcre_opened event all place name) (Err (fault_of fault))
opens_no_pattern before now old new place name text (conf_fault.Refused refusal) opened is counts once =
    let found = is (not_memory refusal) in
    let said = refused_so (table_of found.0 name text) refusal found.1 in
    let named = pattern_named found.0 name text refusal said in
    record {
      event = at_line found.0;
      known = λ all known. in_file found.0 all place name text (opened.known all known) ∙ refuses_so (table_of found.0 name text) (λ t. Ok (node.Pcre t)) refusal said;
      leaves = opened.leaves;
      counts = counts (not_memory refusal) ∙ ap (λ t. counted_if t old) (sym named);
      names = is_there found.0 ∙ found.2 ∙ sym named ∙ or_failed (is_of_size refusal);
    }
opens_no_pattern before now old new place name text conf_fault.NoMemory opened is counts once = record {
  event = None;
  known = λ all known. tt;
  leaves = opened.leaves;
  counts = at_most_once once;
  names = refl;
}

-- its file was not read
pub opens_no_file : (before now : Tree) (old : ℕ) (place : Place) (name : List ℕ) (fault : OpenFault)
    → Opens before now (λ failed all. table_text failed all place name) (Err fault) → names_size fault ≡ false
    → OpensWith before now old old (λ event all. pcre_opened event all place name) (Err fault)
opens_no_file before now old place name (open_fault.Refused refusal) opened small = record {
  event = None;
  known = λ all known. stays (table_text false all place name) (λ text. in_text None name text) (unopened.refuses refusal) (opened.known all known);
  leaves = opened.leaves;
  counts = small_counts old (is_of_size refusal) small;
  names = no_event (is_of_size refusal) small;
}
opens_no_file before now old place name (open_fault.Failed file) opened small = record {
  event = Some events.read_fails;
  known = λ all known. stays (table_text true all place name) (λ text. in_text None name text) (unopened.fails file) (opened.known all known);
  leaves = opened.leaves;
  counts = refl;
  names = refl;
}
opens_no_file before now old place name open_fault.NoMemory opened small = record {
  event = None;
  known = λ all known. tt;
  leaves = opened.leaves;
  counts = inl refl;
  names = refl;
}
