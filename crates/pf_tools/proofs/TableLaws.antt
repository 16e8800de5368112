-- The value that an opened table has for a key.
use Rattle.std.proofs.Common.{◌≡◌, ◌≢◌, ◌||◌, ℕ, true, false, List, Option, None, Some, Result, Ok, Err, inl, refl, sym, ap, ◌∙◌, if◌then◌else◌}
use Rattle.std.proofs.lemmas.Bool.{false≢true}
use Rattle.std.specs.Option.{ok_or, unwrap_or}
use Rattle.pf_asks.specs.Clauses.Held.{Answered, is_meant_or_failure}
use Rattle.pf_asks.specs.Looking.{Looked, Tables, Values, look_failed, looked_up, value_of}
use Rattle.pf_asks.specs.declared.lookup.Found.{Found}
use Rattle.pf_asks.specs.declared.lookup.Found.TheVariants.{Value, Absent}
use Rattle.pf_asks.specs.declared.lookup.TableFault.TheVariants.{Fails}
use Rattle.pf_base.specs.Outside.Known.{Tree}
use Rattle.pf_base.specs.declared.pair.Pair.{Pair}
use Rattle.pf_base.specs.declared.refused.Refused.{Refused}
use Rattle.pf_maps.proofs.TurnLaws.{small_counts}
use Rattle.pf_maps.specs.Clauses.Opened.{OpensWith, is_of_size}
use Rattle.pf_maps.specs.Clauses.Seen.{OpenTables, opened, seen, values_of}
use Rattle.pf_maps.specs.Opening.{tables_opened}
use Rattle.pf_maps.specs.Opening.{Unopened as unopened}
use Rattle.pf_maps.specs.declared.opening.OpenFault.{OpenFault}
use Rattle.pf_maps.specs.declared.opening.OpenFault.TheVariants as open_fault
use Rattle.pf_table.specs.Tables.{fail_meaning}
use Rattle.pf_tools.specs.Clauses.Opened.{meant, value_in}
use Rattle.pf_tools.specs.Map.Lines.{value_found}
use Rattle.pf_tools.specs.Map.Said.{Happening, is_no_table, no_table, specs_of, tables_in}
use Rattle.pf_words.specs.declared.postmap.MapWords.{MapWords}

-- an answer that is no failure from outside is the one that is meant
as_meant : (values : Values) (key : List ℕ) (result : Looked) → Answered look_failed (Some values) (value_of 0 key) result → look_failed result ≡ false
    → result ≡ value_of 0 key values
as_meant values key result a works = by a.heard (a.only values refl) (a.is values refl) where
  by : (heard : Option Looked) → is_meant_or_failure look_failed heard ≡ true → result ≡ unwrap_or heard (value_of 0 key values) → result ≡ value_of 0 key values
  by None only is = is
  by (Some answer) only is = absurd (false≢true (sym works ∙ ap look_failed is ∙ only))

found_value : (o : Option Found) (value : List ℕ) → Ok (Value value) ≡ ok_or o Fails → Some value ≡ value_found o
found_value None value is = cc
found_value (Some Absent) value is = cc
found_value (Some (Value other)) value is = cc

found_absent : (o : Option Found) → Ok Absent ≡ ok_or o Fails → None ≡ value_found o
found_absent None is = cc
found_absent (Some Absent) is = refl
found_absent (Some (Value other)) is = cc

found_fails : (o : Option Found) → Err Fails ≡ ok_or o Fails → None ≡ value_found o
found_fails None is = refl
found_fails (Some Absent) is = cc
found_fails (Some (Value other)) is = cc

module _ (old : OpenTables) (key : List ℕ) where
  abbrev Is : Looked → Type 0
  Is result = Answered look_failed (seen old).held.content (value_of 0 key) result

  pub value_is : (value : List ℕ) → Is (Ok (Value value)) → Some value ≡ value_in old key
  value_is value a = found_value _ value (as_meant (values_of old.tables) key (Ok (Value value)) a refl)

  pub absent_is : Is (Ok Absent) → None ≡ value_in old key
  absent_is a = found_absent _ (as_meant (values_of old.tables) key (Ok Absent) a refl)

  pub fails_is : Is (Err Fails) → None ≡ value_in old key
  fails_is a = found_fails _ (as_meant (values_of old.tables) key (Err Fails) a refl)

-- a lookup keeps what a table means
pub still_meant : (old new : OpenTables) (result : Looked) → seen new ≡ looked_up result (seen old) → meant new ≡ meant old
still_meant old new result stays = ap (λ (t : Tables). unwrap_or t.held.content (λ id. fail_meaning) 0) stays

-- a text that names no table is refused
other_fault : (refusal : Refused) → open_fault.Refused refusal ≢ open_fault.NoMemory
other_fault refusal e = cc

failed_other : (file : List ℕ) → open_fault.Failed file ≢ open_fault.NoMemory
failed_other file e = cc

failed_no_refusal : (file : List ℕ) (refusal : Refused) → open_fault.Failed file ≢ open_fault.Refused refusal
failed_no_refusal file refusal e = cc

pub opens_no_table : (words : MapWords) (tree : Tree) (count : ℕ) (fault : OpenFault) → is_no_table words.table ≡ true
    → (fault ≢ open_fault.NoMemory → fault ≡ open_fault.Refused (no_table words.table))
    → OpensWith tree tree count count (λ event all. opened (tables_in event words all)) (Err fault)
opens_no_table words tree count (open_fault.Refused refusal) none is =
    let made : open_fault.Refused refusal ≡ open_fault.Refused (no_table words.table) = is (other_fault refusal) in
    let e : no_table words.table ≡ refusal = cc in
    let small : is_of_size refusal ≡ false = sym (ap is_of_size e) in
    record {
      event = None;
      known = λ all known.
          ap (λ t. opened (if t then Err (unopened.refuses (no_table words.table)) else tables_opened None all words.folded (specs_of words.table))) none
          ∙ ap (λ r. Err (unopened.refuses r)) e;
      leaves = (refl, refl);
      counts = small_counts count (is_of_size refusal) small;
      names = sym (ap (λ t. t || false) small);
    }
opens_no_table words tree count (open_fault.Failed file) none is = absurd (failed_no_refusal file (no_table words.table) (is (failed_other file)))
opens_no_table words tree count open_fault.NoMemory none is = record { event = None; known = λ all known. tt; leaves = (refl, refl); counts = inl refl; names = refl }

-- any other text names what it says
pub tables_are : (event : Happening) (words : MapWords) (all : List Pair) → is_no_table words.table ≡ false
    → tables_opened event all words.folded (specs_of words.table) ≡ tables_in event words all
tables_are event words all is =
    sym (ap (λ t. if t then Err (unopened.refuses (no_table words.table)) else tables_opened event all words.folded (specs_of words.table)) is)
