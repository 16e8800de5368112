-- What lookups in memory answer.
use Rattle.std.proofs.Common.{◌≡◌, ◌≢◌, ℕ, Bool, true, false, List, Option, None, Some, Result, Ok, Err, length, refl, sym, ap, subst, ◌∙◌}
use Rattle.std.proofs.lemmas.Bool.{ltb-true}
use Rattle.std.proofs.lemmas.List.Sums.{AllPass-from_list_all}
use Rattle.std.specs.List.{list_all}
use Rattle.std.specs.Prelude.{nat_lt, slice_index_or, ok_or, slice_get}
use Rattle.pf_base.specs.Clauses.Unless.{Unless}
use Rattle.pf_base.specs.declared.pair.Pair.{Pair}
use Rattle.pf_base.specs.declared.table_texts.TableId.{TableId}
use Rattle.pf_asks.specs.Clauses.Held.{Answered}
use Rattle.pf_asks.specs.Looking.{CanFind, HasAll, Listing, Looked, Values, answer_of, listed, listing_failed, look_failed, looked_up, results_of, value_of}
use Rattle.pf_asks.specs.declared.lookup.Found.{Found}
use Rattle.pf_asks.specs.declared.lookup.Results.{Results}
use Rattle.pf_asks.specs.declared.lookup.TableFault.{TableFault}
use Rattle.pf_asks.specs.declared.lookup.TableFault.TheVariants.{Fails, Failed, NoMemory}
use Rattle.pf_table.proofs.ResultLaws.{fail_has_all, keyed_has_all}
use Rattle.pf_table.specs.Clauses.Memory.{CountsCall, MemoryTables, meaning_in, seen, values_of, with_find}

-- a lookup that fails
pub failed_lookup : (old : MemoryTables) (id : ℕ) (key : List ℕ) → Answered look_failed (seen old).held.content (value_of id key) (Err Failed)
failed_lookup old id key = record { heard = Some (Err Failed); only = λ known e. refl; is = λ known knows. refl }

-- and one that is answered
answered : (old : MemoryTables) (id : ℕ) (key : List ℕ) (result : Looked) → result ≡ answer_of (meaning_in (slice_get old.tables id)) key
    → Answered look_failed (seen old).held.content (value_of id key) result
answered old id key result is = record {
  heard = None;
  only = λ known e. refl;
  is = λ known knows. is ∙ ap (λ values. value_of id key values) knows;
}

pub answered_lookup : (old : MemoryTables) (id : ℕ) (key : List ℕ) (result : Looked)
    → Unless result NoMemory (λ r. r ≡ answer_of (meaning_in (slice_get old.tables id)) key)
    → Unless result NoMemory (Answered look_failed (seen old).held.content (value_of id key))
answered_lookup old id key (Ok found) is = answered old id key (Ok found) is
answered_lookup old id key (Err fault) is = λ other. answered old id key (Err fault) (is other)

-- no table means that it fails from outside
means_no_failure : (meant : Option Found) → Err Failed ≡ ok_or meant Fails → ⊥
means_no_failure None e = cc
means_no_failure (Some found) e = cc

not_memory : Failed ≢ NoMemory
not_memory e = cc

works : (result : Looked) (meant : Option Found) → Unless result NoMemory (λ r. r ≡ ok_or meant Fails) → look_failed result ≡ false
works (Ok found) meant is = refl
works (Err Fails) meant is = refl
works (Err Failed) meant is = absurd (means_no_failure meant (is not_memory))
works (Err NoMemory) meant is = refl

looked_up_counted : (old new : MemoryTables) (result : Looked) (fails : Bool) → CountsCall (with_find old) new fails → fails ≡ look_failed result
    → seen new ≡ looked_up result (seen old)
looked_up_counted old new result fails counts e = rw (counts.tables, counts.finds, counts.faults, e) refl

pub failed_is : (old new : MemoryTables) → CountsCall (with_find old) new true → seen new ≡ looked_up (Err Failed) (seen old)
failed_is old new counts = looked_up_counted old new (Err Failed) true counts refl

pub answered_is : (old new : MemoryTables) (id : ℕ) (key : List ℕ) (result : Looked) → CountsCall (with_find old) new false
    → Unless result NoMemory (λ r. r ≡ answer_of (meaning_in (slice_get old.tables id)) key) → seen new ≡ looked_up result (seen old)
answered_is old new id key result counts is =
    looked_up_counted old new result false counts (sym (works result ((meaning_in (slice_get old.tables id)).value key) is))

-- results that fail
pub failed_listing : (old : MemoryTables) (id : ℕ) → Answered listing_failed (seen old).held.content (results_of id) (Err Failed)
failed_listing old id = record { heard = Some (Err Failed); only = λ known e. refl; is = λ known knows. refl }

-- and such as are answered
listing : (old : MemoryTables) (id : ℕ) (result : Listing) → result ≡ Ok ((meaning_in (slice_get old.tables id)).results)
    → Answered listing_failed (seen old).held.content (results_of id) result
listing old id result is = record {
  heard = None;
  only = λ known e. refl;
  is = λ known knows. is ∙ ap (λ values. results_of id values) knows;
}

pub answered_listing : (old : MemoryTables) (id : ℕ) (result : Listing) → Unless result NoMemory (λ r. r ≡ Ok ((meaning_in (slice_get old.tables id)).results))
    → Unless result NoMemory (Answered listing_failed (seen old).held.content (results_of id))
answered_listing old id (Ok results) is = listing old id (Ok results) is
answered_listing old id (Err fault) is = λ other. listing old id (Err fault) (is other)

no_fails : {A : Type 0} (results : A) (result : Result A TableFault) → Unless result NoMemory (λ r. r ≡ Ok results) → result ≢ Err Fails
no_fails results (Ok other) is e = cc
no_fails results (Err Fails) is e = no_fault (is (λ memory. cc))
  where
    no_fault : Err Fails ≡ Ok results → ⊥
    no_fault h = cc
no_fails results (Err Failed) is e = cc
no_fails results (Err NoMemory) is e = cc

pub never_fails : (old : MemoryTables) (id : ℕ) (result : Listing) → Unless result NoMemory (λ r. r ≡ Ok ((meaning_in (slice_get old.tables id)).results))
    → result ≢ Err Fails
never_fails old id result is = no_fails (meaning_in (slice_get old.tables id)).results result is

listing_works : (results : Results) (result : Listing) → Unless result NoMemory (λ r. r ≡ Ok results) → listing_failed result ≡ false
listing_works results (Ok other) is = refl
listing_works results (Err Fails) is = refl
listing_works results (Err Failed) is = absurd (no_failure (is not_memory))
  where
    no_failure : Err Failed ≡ Ok results → ⊥
    no_failure e = cc
listing_works results (Err NoMemory) is = refl

listed_counted : (old new : MemoryTables) (result : Listing) (fails : Bool) → CountsCall old new fails → fails ≡ listing_failed result
    → seen new ≡ listed result (seen old)
listed_counted old new result fails counts e = rw (counts.tables, counts.finds, counts.faults, e) refl

pub failed_listing_is : (old new : MemoryTables) → CountsCall old new true → seen new ≡ listed (Err Failed) (seen old)
failed_listing_is old new counts = listed_counted old new (Err Failed) true counts refl

pub listing_is : (old new : MemoryTables) (id : ℕ) (result : Listing) → CountsCall old new false
    → Unless result NoMemory (λ r. r ≡ Ok ((meaning_in (slice_get old.tables id)).results)) → seen new ≡ listed result (seen old)
listing_is old new id result counts is = listed_counted old new result false counts (sym (listing_works (meaning_in (slice_get old.tables id)).results result is))

-- partial keys and results of any table in memory
meaning_partial : (pairs : Option (List Pair)) → true ≡ (meaning_in pairs).partial_keys
meaning_partial None = refl
meaning_partial (Some pairs) = refl

pub known_partial : (old : MemoryTables) (id : ℕ) (values : Values) → (seen old).held.content ≡ Some values → true ≡ (values id).partial_keys
known_partial old id values knows = let e : values_of old.tables ≡ values = cc in
    meaning_partial (slice_get old.tables id) ∙ ap (λ (vs : Values). (vs id).partial_keys) e

meaning_has_all : (pairs : Option (List Pair)) → HasAll (meaning_in pairs)
meaning_has_all None = fail_has_all
meaning_has_all (Some pairs) = keyed_has_all (record { folds = false; pairs = pairs })

pub known_has_all : (old : MemoryTables) (id : ℕ) (values : Values) → (seen old).held.content ≡ Some values → HasAll (values id)
known_has_all old id values knows = let e : values_of old.tables ≡ values = cc in
    subst (λ (vs : Values). HasAll (vs id)) e (meaning_has_all (slice_get old.tables id))

-- tables of all these places are there
pub can_find_below : (memory : MemoryTables) (ids : List TableId) (count : ℕ) → count ≡ length memory.tables
    → list_all (λ id. nat_lt id.0 count) ids ≡ true → CanFind (seen memory) ids
can_find_below memory ids count is all = record {
  sound = refl;
  there = λ k d lt. rw is at (ltb-true (slice_index_or ids k d).0 count (AllPass-from_list_all (λ id. nat_lt id.0 count) ids all k d lt));
}
