-- What is to be heard of questions to lists, and which tables are there.
use Rattle.std.proofs.Common.{◌≡◌, ◌<◌, ◌≤◌, ◌+◌, ℕ, zero, suc, Bool, false, List, [], ◌∷◌, Option, None, Some, Result, Ok, arith, drop, get_or, length}
use Rattle.std.proofs.lemmas.List.{at_drop_all, at_drop_more}
use Rattle.pf_asks.proofs.LedLaws.{can_find_back, can_find_prefix}
use Rattle.pf_asks.specs.Clauses.Led.{ByTables, TablesLed}
use Rattle.pf_asks.specs.Looking.{CanFind, Tables}
use Rattle.pf_asks.specs.Questions.{done}
use Rattle.pf_asks.specs.Tries.{Try, ok}
use Rattle.pf_asks.specs.declared.lookup.Found.{Found}
use Rattle.pf_asks.specs.declared.lookup.Found.TheVariants.{Value, Absent}
use Rattle.pf_class.proofs.AskingLaws.{fault_next, hears_done, hears_look, hears_next, hears_then, ok_next}
use Rattle.pf_class.specs.Clauses.Asking.{EndsWith, HearsOn}
use Rattle.pf_class.specs.Members.{as_answer, file_says, first_value, is_member, item_says, looked, or_else, or_next, pattern_says, table_of, table_says, tables_of}
use Rattle.pf_class.specs.declared.fault.ClassFault.{ClassFault}
use Rattle.pf_class.specs.declared.item.Item.{Item}
use Rattle.pf_class.specs.declared.item.Pattern.{Pattern}
use Rattle.pf_class.specs.declared.item.Pattern.TheVariants.{Names, Net, Table, File}
use Rattle.pf_class.specs.declared.subject.Subject.{Subject}

pub hears_ok : {A : Type 0} (x : A) → HearsOn {A = Result A ClassFault} (ok x)
hears_ok x = hears_done (Ok x)

pub hears_looked : (id : ℕ) (key : List ℕ) → HearsOn (looked id key)
unfolding looked
hears_looked id key = hears_then (λ answer. done (as_answer answer)) (hears_look id key) (λ answer. hears_done (as_answer answer))

pub hears_or_else : (behind : Try ClassFault Found) → HearsOn behind → (found : Found) → HearsOn (or_else found behind)
hears_or_else behind hears (Value bytes) = hears_ok (Value bytes)
hears_or_else behind hears Absent = hears

pub hears_first_value : (id : ℕ) (keys : List (List ℕ)) → HearsOn (first_value id keys)
unfolding first_value
hears_first_value id [] = hears_ok Absent
hears_first_value id (key ∷ keys) =
    hears_next (λ found. or_else found (first_value id keys)) (hears_looked id key) (hears_or_else (first_value id keys) (hears_first_value id keys))

pub hears_pattern : (pattern : Pattern) (subject : Subject) → HearsOn (pattern_says pattern subject)
unfolding pattern_says
hears_pattern (Names names) subject = hears_ok _
hears_pattern (Net net) subject = hears_ok _
hears_pattern (Table id) subject = hears_next (λ found. ok (table_says found)) (hears_first_value id.0 subject.keys) (λ found. hears_ok (table_says found))
hears_pattern (File id) subject = hears_next (λ found. ok (file_says found)) (hears_first_value id.0 subject.file_keys) (λ found. hears_ok (file_says found))

pub hears_item : (item : Item) (subject : Subject) → HearsOn (item_says item subject)
unfolding item_says
hears_item item subject = hears_next _ (hears_pattern item.pattern subject) (λ says. hears_ok _)

pub hears_or_next : (behind : Try ClassFault Bool) → HearsOn behind → (says : Option Bool) → HearsOn (or_next says behind)
hears_or_next behind hears (Some member) = hears_ok member
hears_or_next behind hears None = hears

pub hears_member : (items : List Item) (subject : Subject) → HearsOn (is_member items subject)
unfolding is_member
hears_member [] subject = hears_ok false
hears_member (item ∷ items) subject =
    hears_next (λ says. or_next says (is_member items subject)) (hears_item item subject) (hears_or_next (is_member items subject) (hears_member items subject))

-- the table of an item of a list is there
can_find_at : (tables : Tables) (items : List Item) (i : ℕ) (d : Item) → i < length items → CanFind tables (tables_of items)
    → CanFind tables (table_of (get_or items i d).pattern)
can_find_at tables [] i d lt can = absurd (omega (arith, lt))
can_find_at tables (item ∷ items) zero d lt can = can_find_prefix (table_of item.pattern) (tables_of items) can
can_find_at tables (item ∷ items) (suc i) d lt can =
    can_find_at tables items i d (omega (arith, lt)) (can_find_back (table_of item.pattern) (tables_of items) can)

pub can_find_item : (tables : Tables) (items : List Item) (i : ℕ) (item : Item) → i < length items → item ≡ get_or items i item
    → CanFind tables (tables_of items) → CanFind tables (table_of item.pattern)
can_find_item tables items i item lt at can = rw (← at) at (can_find_at tables items i item lt can)

-- a turn of a search through keys
pub value_ok : (a b c : Tables) (id : ℕ) (keys : List (List ℕ)) (i : ℕ) (key : List ℕ) (found : Found) → i < length keys → key ≡ get_or keys i key
    → TablesLed a b (first_value id keys) (first_value id (drop i keys)) → ByTables b c (looked id key) (Ok found)
    → TablesLed a c (first_value id keys) (or_else found (first_value id (drop (i + 1) keys)))
unfolding first_value
value_ok a b c id keys i key found lt at led call =
    ok_next a b c (first_value id keys) (looked id key) (λ found. or_else found (first_value id (drop (i + 1) keys))) found
    (λ w. rw (at_drop_more (first_value id) keys i key lt, ← at) at (led w)) call

pub value_fault : (a b c : Tables) (id : ℕ) (keys : List (List ℕ)) (i : ℕ) (key : List ℕ) (fault : ClassFault) → i < length keys → key ≡ get_or keys i key
    → TablesLed a b (first_value id keys) (first_value id (drop i keys)) → EndsWith b c (looked id key) fault
    → EndsWith a c (first_value id keys) fault
unfolding first_value
value_fault a b c id keys i key fault lt at led call =
    fault_next a b c (first_value id keys) (looked id key) (λ found. or_else found (first_value id (drop (i + 1) keys))) fault
    (λ w. rw (at_drop_more (first_value id) keys i key lt, ← at) at (led w))
    (hears_or_else (first_value id (drop (i + 1) keys)) (hears_first_value id (drop (i + 1) keys))) call

-- and its end
pub value_end : (a b : Tables) (id : ℕ) (keys : List (List ℕ)) (i : ℕ) → length keys ≤ i
    → TablesLed a b (first_value id keys) (first_value id (drop i keys)) → ByTables a b (first_value id keys) (Ok Absent)
unfolding first_value
value_end a b id keys i le led = λ w. rw (at_drop_all (first_value id) keys i le) at (led w)

-- a turn of a reading of a list
pub member_ok : (a b c : Tables) (items : List Item) (subject : Subject) (i : ℕ) (item : Item) (says : Option Bool) → i < length items → item ≡ get_or items i item
    → TablesLed a b (is_member items subject) (is_member (drop i items) subject) → ByTables b c (item_says item subject) (Ok says)
    → TablesLed a c (is_member items subject) (or_next says (is_member (drop (i + 1) items) subject))
unfolding is_member
member_ok a b c items subject i item says lt at led call =
    ok_next a b c (is_member items subject) (item_says item subject) (λ says. or_next says (is_member (drop (i + 1) items) subject)) says
    (λ w. rw (at_drop_more (λ xs. is_member xs subject) items i item lt, ← at) at (led w)) call

pub member_fault : (a b c : Tables) (items : List Item) (subject : Subject) (i : ℕ) (item : Item) (fault : ClassFault) → i < length items → item ≡ get_or items i item
    → TablesLed a b (is_member items subject) (is_member (drop i items) subject) → EndsWith b c (item_says item subject) fault
    → EndsWith a c (is_member items subject) fault
unfolding is_member
member_fault a b c items subject i item fault lt at led call =
    fault_next a b c (is_member items subject) (item_says item subject) (λ says. or_next says (is_member (drop (i + 1) items) subject)) fault
    (λ w. rw (at_drop_more (λ xs. is_member xs subject) items i item lt, ← at) at (led w))
    (hears_or_next (is_member (drop (i + 1) items) subject) (hears_member (drop (i + 1) items) subject)) call

-- and its end
pub member_end : (a b : Tables) (items : List Item) (subject : Subject) (i : ℕ) → length items ≤ i
    → TablesLed a b (is_member items subject) (is_member (drop i items) subject) → ByTables a b (is_member items subject) (Ok false)
unfolding is_member
member_end a b items subject i le led = λ w. rw (at_drop_all (λ xs. is_member xs subject) items i le) at (led w)
