-- What an object outside that answers questions makes known to contracts, and what is heard of it in place of what it means.
-- Words of contracts, by no standard.
use Rattle.std.specs.Prelude.{◌≡◌, ℕ, Bool, true, false, List, Option, None, Some}
use Rattle.std.specs.List.{count_by, list_all}
use Rattle.std.specs.Option.{unwrap_or}
use Rattle.pf_base.specs.Outside.Counts.{counted_by}
use Rattle.pf_asks.specs.Clauses.Causes.{counted_if}

-- what the object means, where that is known, and how often a call has failed
pub record Held (C : Type 0) : Type 0 where
  pub content : Option C
  pub faults : ℕ

-- a known object means this; one of which nothing is known may mean anything
abbrev pub Tells : {C : Type 0} → Option C → C → Type 0
Tells None meant = Unit {0}
Tells (Some known) meant = known ≡ meant

-- a call was made, which failed or not; the object means what it meant
abbrev pub called : {C : Type 0} → Bool → Held C → Held C
called failed old = record old { faults = counted_if failed old.faults }

-- of a call it is heard that it is answered as meant (None), or an answer in place of that; the answer may be a failure
abbrev pub is_failure : {A : Type 0} → (A → Bool) → Option A → Bool
is_failure fails None = false
is_failure fails (Some answer) = fails answer

-- how many of the calls fail
abbrev pub failures : {A : Type 0} → (A → Bool) → List (Option A) → ℕ
failures fails heard = count_by (is_failure fails) heard

-- as meant, or a failure
abbrev pub is_meant_or_failure : {A : Type 0} → (A → Bool) → Option A → Bool
is_meant_or_failure fails None = true
is_meant_or_failure fails (Some answer) = fails answer

-- this was heard of some calls: just as many failures as the count of faults rose, and, where the object is known, no other answer in
-- place of what it means
pub record Hears {C A : Type 0} (fails : A → Bool) (old new : Held C) (heard : List (Option A)) : Type 0 where
  pub kept : new.content ≡ old.content
  pub faults : new.faults ≡ counted_by (failures fails heard) old.faults
  pub only : (content : C) → old.content ≡ Some content → list_all (is_meant_or_failure fails) heard ≡ true

-- one call was answered as the object means, or as was heard in place of that
pub record Answered {C A : Type 0} (fails : A → Bool) (content : Option C) (meant : C → A) (result : A) : Type 0 where
  pub heard : Option A
  pub only : (known : C) → content ≡ Some known → is_meant_or_failure fails heard ≡ true
  pub is : (known : C) → Tells content known → result ≡ unwrap_or heard (meant known)

-- an answer that is no failure, and that the object still means
pub record Holds {C A : Type 0} (fails : A → Bool) (content : Option C) (meant : C → A) (result : A) : Type 0 where
  pub works : fails result ≡ false
  pub is : (known : C) → content ≡ Some known → result ≡ meant known
