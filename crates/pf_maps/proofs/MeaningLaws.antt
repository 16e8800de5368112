-- What tables mean, member by member.
use Rattle.std.proofs.Common.{◌≡◌, ◌≢◌, ◌+◌, ◌-◌, ◌++◌, ◌||◌, ◌&&◌, ℕ, zero, suc, Bool, true, false, List, [], ◌∷◌, Option, None, Some, Result, Ok, Err, refl, sym, ap, subst, ◌∙◌, codes, drop, length, ◌≤◌, append_assoc, arith}
use Rattle.std.proofs.lemmas.List.{length-drop}
use Rattle.std.proofs.lemmas.Slice.Eq.{bytes_eq-Decides}
use Rattle.std.specs.List.{list_any}
use Rattle.std.specs.Option.{option_map}
use Rattle.std.specs.Prelude.{ok_or, slice_get}
use Rattle.std.specs.Str.{bytes_eq}
use Rattle.pf_base.specs.Options.{◌>>=◌}
use Rattle.pf_asks.specs.Looking.{HasAll, IsAmong, Meaning, Values, answer_of}
use Rattle.pf_asks.specs.declared.lookup.Found.{Found}
use Rattle.pf_asks.specs.declared.lookup.Found.TheVariants.{Value, Absent}
use Rattle.pf_asks.specs.declared.lookup.Results.TheVariants.{Anything}
use Rattle.pf_asks.specs.declared.lookup.TableFault.{TableFault}
use Rattle.pf_asks.specs.declared.lookup.TableFault.TheVariants.{Fails, NoMemory}
use Rattle.pf_cidr.specs.Addresses.{address_of}
use Rattle.pf_cidr.specs.Tables.{Table, first_rule}
use Rattle.pf_cidr.specs.declared.address.Addr.{Addr}
use Rattle.pf_listfile.proofs.ResultLaws.{list_has_all}
use Rattle.pf_pcre.proofs.ResultLaws as pcre
use Rattle.pf_table.proofs.ResultLaws.{fail_has_all, keyed_has_all, static_has_all}
use Rattle.pf_maps.proofs.CdbLaws.{cdb_has_all}
use Rattle.pf_maps.specs.Cdb.{found_as}
use Rattle.pf_maps.specs.Clauses.Seen.{meaning_in, values_of}
use Rattle.pf_maps.specs.Meanings.{address_found, all_partial, cidr_meaning, first_meaning, firsts, joined, meaning_of, meanings_of, pipe_meaning, pipe_on, pipe_results, pipe_value, union_meaning, union_results, union_value}
use Rattle.pf_maps.specs.declared.node.Node.{Node}
use Rattle.pf_maps.specs.declared.node.Node.TheVariants as node

-- what is after tables
drop_nothing : {A : Type 0} (n : ℕ) (xs : List A) → xs ≡ [] → drop n xs ≡ []
drop_nothing n [] is = by n
  where
    by : {A : Type 0} (n : ℕ) → ◌≡◌ {A = List A} (drop n []) []
    by zero = refl
    by (suc n) = refl
drop_nothing n (x ∷ xs) is = cc

drop_first : {A : Type 0} (n : ℕ) (xs : List A) → drop n (drop 1 xs) ≡ drop (suc n) xs
drop_first n [] = drop_nothing n [] refl
drop_first n (x ∷ xs) = refl

pub drop_less : {A : Type 0} (n : ℕ) (xs : List A) → n ≢ 0 → drop (n - 1) (drop 1 xs) ≡ drop n xs
drop_less zero xs h = absurd (h refl)
drop_less (suc n) xs h = let e : suc n - 1 ≡ n = omega arith in ap (λ m. drop m (drop 1 xs)) e ∙ drop_first n xs

-- the first of some tables, and the others
pub firsts_more : (n : ℕ) (ms : List Meaning) → n ≢ 0 → firsts n ms ≡ first_meaning ms ∷ firsts (n - 1) (drop 1 ms)
firsts_more zero ms h = absurd (h refl)
firsts_more (suc n) ms h = let e : n ≡ suc n - 1 = omega arith in ap (λ m. first_meaning ms ∷ firsts m (drop 1 ms)) e

-- unions
pub joined_none : (o : Option Found) → option_map (joined Absent) o ≡ o
joined_none None = refl
joined_none (Some found) = refl

pub joined_last : (found : Found) → joined found Absent ≡ found
joined_last Absent = refl
joined_last (Value value) = refl

joined_assoc : (a b c : Found) → joined (joined a b) c ≡ joined a (joined b c)
joined_assoc Absent b c = refl
joined_assoc (Value x) Absent c = refl
joined_assoc (Value x) (Value y) Absent = refl
joined_assoc (Value x) (Value y) (Value z) =
    ap Value (ap (λ w. w ++ z) (append_assoc (x ++ codes ",") y (codes ",")) ∙ append_assoc (x ++ codes ",") (y ++ codes ",") z)

-- one member more of a union
pub union_more : (found one : Found) (members : List Meaning) (member : Meaning) (key : List ℕ) → member.value key ≡ Some one
    → option_map (joined found) (union_value (member ∷ members) key) ≡ option_map (joined (joined found one)) (union_value members key)
union_more found one members member key is = rw is (by (union_value members key))
  where
    by : (o : Option Found) → option_map (joined found) (o >>= λ more. Some (joined one more)) ≡ option_map (joined (joined found one)) o
    by None = refl
    by (Some more) = ap Some (sym (joined_assoc found one more))

-- a member that fails
pub union_fails : (members : List Meaning) (member : Meaning) (key : List ℕ) → member.value key ≡ None → union_value (member ∷ members) key ≡ None
union_fails members member key is = rw is refl

-- pipes
pub pipe_more : (members : List Meaning) (member : Meaning) (key value : List ℕ) → member.value key ≡ Some (Value value)
    → pipe_value (member ∷ members) key ≡ pipe_value members value
pipe_more members member key value is = rw is refl

pub pipe_ends : (members : List Meaning) (member : Meaning) (key : List ℕ) → member.value key ≡ Some Absent → pipe_value (member ∷ members) key ≡ Some Absent
pipe_ends members member key is = rw is refl

pub pipe_fails : (members : List Meaning) (member : Meaning) (key : List ℕ) → member.value key ≡ None → pipe_value (member ∷ members) key ≡ None
pipe_fails members member key is = rw is refl

-- the results of the last of some tables
pub last_results : (n : ℕ) (ms : List Meaning) → pipe_results (firsts (suc n) ms) ≡ (first_meaning (drop n ms)).results
last_results zero ms = refl
last_results (suc n) ms = last_results n (drop 1 ms) ∙ ap (λ xs. (first_meaning xs).results) (drop_first n ms)

pub pipe_results_last : (n : ℕ) (ms : List Meaning) → n ≢ 0 → pipe_results (firsts n ms) ≡ (first_meaning (drop (n - 1) ms)).results
pipe_results_last zero ms h = absurd (h refl)
pipe_results_last (suc n) ms h = let e : n ≡ suc n - 1 = omega arith in last_results n ms ∙ ap (λ m. (first_meaning (drop m ms)).results) e

-- a step of a walk
there : (o : Option Found) (found : Found) → Ok found ≡ ok_or o Fails → o ≡ Some found
there None found is = cc
there (Some other) found is = let e : found ≡ other = cc in ap Some (sym e)

pub union_step : (more : ℕ) (nodes behind : List Node) (found one now : Found) (key : List ℕ) → more ≢ 0 → meanings_of behind ≡ drop 1 (meanings_of nodes)
    → Ok one ≡ answer_of (meaning_of nodes) key → now ≡ joined found one
    → option_map (joined now) (union_value (firsts (more - 1) (meanings_of behind)) key) ≡ option_map (joined found) (union_value (firsts more (meanings_of nodes)) key)
union_step more nodes behind found one now key h is answer made =
    ap (λ ms. option_map (joined now) (union_value (firsts (more - 1) ms) key)) is
    ∙ ap (λ f. option_map (joined f) (union_value (firsts (more - 1) (drop 1 (meanings_of nodes))) key)) made
    ∙ sym (ap (λ ms. option_map (joined found) (union_value ms key)) (firsts_more more (meanings_of nodes) h)
    ∙ union_more found one (firsts (more - 1) (drop 1 (meanings_of nodes))) (meaning_of nodes) key (there ((meaning_of nodes).value key) one answer))

pub pipe_step : (more : ℕ) (nodes behind : List Node) (found : Found) (value next : List ℕ) → more ≢ 0 → meanings_of behind ≡ drop 1 (meanings_of nodes)
    → Ok found ≡ answer_of (meaning_of nodes) value → found ≡ Value next
    → pipe_value (firsts (more - 1) (meanings_of behind)) next ≡ pipe_value (firsts more (meanings_of nodes)) value
pipe_step more nodes behind found value next h is answer made =
    ap (λ ms. pipe_value (firsts (more - 1) ms) next) is
    ∙ sym (ap (λ ms. pipe_value ms value) (firsts_more more (meanings_of nodes) h)
    ∙ pipe_more (firsts (more - 1) (drop 1 (meanings_of nodes))) (meaning_of nodes) value next (there ((meaning_of nodes).value value) found answer ∙ ap Some made))

-- a walk that ends where a member fails, or has nothing
failed : (o : Option Found) (fault : TableFault) → Err fault ≡ ok_or o Fails → (o ≡ None) × (fault ≡ Fails)
failed None fault is = let e : fault ≡ Fails = cc in (refl, e)
failed (Some found) fault is = cc

fails_so : (o : Option Found) (fault : TableFault) → o ≡ None → fault ≡ Fails → Err fault ≡ ok_or o Fails
fails_so o fault none fails = rw (none, fails) refl

pub union_stop : (more count : ℕ) (here nodes first : List Node) (found : Found) (key : List ℕ) (fault : TableFault) → more ≢ 0
    → option_map (joined found) (union_value (firsts more (meanings_of here)) key) ≡ union_value (firsts count (meanings_of nodes)) key → nodes ≡ first
    → (fault ≢ NoMemory → Err fault ≡ answer_of (meaning_of here) key) → fault ≢ NoMemory
    → Err fault ≡ answer_of (union_meaning (firsts count (meanings_of first))) key
union_stop more count here nodes first found key fault h so same answer memory =
    let two = failed ((meaning_of here).value key) fault (answer memory) in
    let none : union_value (firsts more (meanings_of here)) key ≡ None =
    ap (λ ms. union_value ms key) (firsts_more more (meanings_of here) h) ∙ union_fails (firsts (more - 1) (drop 1 (meanings_of here))) (meaning_of here) key two.0 in
    fails_so (union_value (firsts count (meanings_of first)) key) fault
    (ap (λ ns. union_value (firsts count (meanings_of ns)) key) (sym same) ∙ sym so ∙ ap (option_map (joined found)) none) two.1

pub pipe_stop : (more count : ℕ) (here nodes first : List Node) (value key : List ℕ) (fault : TableFault) → more ≢ 0
    → pipe_value (firsts more (meanings_of here)) value ≡ pipe_value (firsts count (meanings_of nodes)) key → nodes ≡ first
    → (fault ≢ NoMemory → Err fault ≡ answer_of (meaning_of here) value) → fault ≢ NoMemory
    → Err fault ≡ answer_of (pipe_meaning (firsts count (meanings_of first))) key
pipe_stop more count here nodes first value key fault h so same answer memory =
    let two = failed ((meaning_of here).value value) fault (answer memory) in
    let none : pipe_value (firsts more (meanings_of here)) value ≡ None =
    ap (λ ms. pipe_value ms value) (firsts_more more (meanings_of here) h) ∙ pipe_fails (firsts (more - 1) (drop 1 (meanings_of here))) (meaning_of here) value two.0 in
    fails_so (pipe_value (firsts count (meanings_of first)) key) fault
    (ap (λ ns. pipe_value (firsts count (meanings_of ns)) key) (sym same) ∙ sym so ∙ none) two.1

pub pipe_over : (more count : ℕ) (here nodes first : List Node) (value key : List ℕ) (found : Found) → more ≢ 0
    → pipe_value (firsts more (meanings_of here)) value ≡ pipe_value (firsts count (meanings_of nodes)) key → nodes ≡ first
    → Ok found ≡ answer_of (meaning_of here) value → found ≡ Absent
    → Ok Absent ≡ answer_of (pipe_meaning (firsts count (meanings_of first))) key
pipe_over more count here nodes first value key found h so same answer absent =
    let ended : pipe_value (firsts more (meanings_of here)) value ≡ Some Absent =
    ap (λ ms. pipe_value ms value) (firsts_more more (meanings_of here) h)
    ∙ pipe_ends (firsts (more - 1) (drop 1 (meanings_of here))) (meaning_of here) value (there ((meaning_of here).value value) found answer ∙ ap Some absent) in
    let all : pipe_value (firsts count (meanings_of first)) key ≡ Some Absent = ap (λ ns. pipe_value (firsts count (meanings_of ns)) key) (sym same) ∙ sym so ∙ ended in
    rw all refl

-- one member more of which it is known whether it has partial keys
pub partial_step : (more : ℕ) (nodes behind : List Node) (partial : Bool) → more ≢ 0 → meanings_of behind ≡ drop 1 (meanings_of nodes)
    → partial ≡ (meaning_of nodes).partial_keys → partial ≡ true → all_partial (firsts (more - 1) (meanings_of behind)) ≡ all_partial (firsts more (meanings_of nodes))
partial_step more nodes behind partial h is keys so =
    ap (λ ms. all_partial (firsts (more - 1) ms)) is
    ∙ sym (ap all_partial (firsts_more more (meanings_of nodes) h)
    ∙ ap (λ t. t && all_partial (firsts (more - 1) (drop 1 (meanings_of nodes)))) (sym keys ∙ so))

pub same_found : (found other : Found) → ◌≡◌ {A = Result Found TableFault} (Ok found) (Ok other) → found ≡ other
same_found found other e = cc

pub last_are : (nodes : List Node) (n : ℕ) (ms : List Meaning) → n ≢ 0 → meanings_of nodes ≡ drop (n - 1) ms → (meaning_of nodes).results ≡ pipe_results (firsts n ms)
last_are nodes n ms h is = ap (λ xs. (first_meaning xs).results) is ∙ sym (pipe_results_last n ms h)

pub more_results : (n : ℕ) (ms : List Meaning) → n ≢ 0 → n ≢ 1 → Anything ≡ union_results (firsts n ms)
more_results zero ms h k = absurd (h refl)
more_results (suc zero) ms h k = absurd (k refl)
more_results (suc (suc n)) ms h k = refl

-- no kind of table gives a value that is not among its results
alike : (a b : List ℕ) → a ≡ b → bytes_eq a b ≡ true
alike a b e = (bytes_eq-Decides a b).1 e

at_place : (values : List (List ℕ)) (place : ℕ) (value : List ℕ) → slice_get values place ≡ Some value → list_any (bytes_eq value) values ≡ true
at_place [] place value is = cc
at_place (first ∷ values) zero value is = let e : first ≡ value = cc in rw (alike value first (sym e)) refl
at_place (first ∷ values) (suc place) value is = or_else (bytes_eq value first) _ (at_place values place value is)
  where
    or_else : (a b : Bool) → b ≡ true → (a || b) ≡ true
    or_else true b e = refl
    or_else false b e = e

pub nets_have_all : (table : Table) → HasAll (cidr_meaning table)
nets_have_all table key value is = let e : address_found table (address_of key) ≡ Value value = cc in by (address_of key) e
  where
    at_rule : (rule : Option ℕ) → found_as (rule >>= slice_get table.results) ≡ Value value → list_any (bytes_eq value) table.results ≡ true
    at_rule None e = cc
    at_rule (Some rule) e = by_result (slice_get table.results rule) refl e
      where
        by_result : (o : Option (List ℕ)) → slice_get table.results rule ≡ o → found_as o ≡ Value value → list_any (bytes_eq value) table.results ≡ true
        by_result None at e = cc
        by_result (Some other) at e = let same : other ≡ value = cc in at_place table.results rule value (at ∙ ap Some same)

    by : (addr : Option Addr) → address_found table addr ≡ Value value → list_any (bytes_eq value) table.results ≡ true
    by None e = cc
    by (Some addr) e = at_rule (first_rule table.entries addr) e

-- of some tables each has all of its values among its results
abbrev AllHave : List Meaning → Type 0
AllHave [] = Unit {0}
AllHave (member ∷ members) = HasAll member × AllHave members

first_has : (ms : List Meaning) → AllHave ms → HasAll (first_meaning ms)
first_has [] all = fail_has_all
first_has (m ∷ ms) all = all.0

rest_have : (ms : List Meaning) → AllHave ms → AllHave (drop 1 ms)
rest_have [] all = tt
rest_have (m ∷ ms) all = all.1

firsts_have : (n : ℕ) (ms : List Meaning) → AllHave ms → AllHave (firsts n ms)
firsts_have zero ms all = tt
firsts_have (suc n) ms all = (first_has ms all, firsts_have n (drop 1 ms) (rest_have ms all))

dropped_have : (n : ℕ) (ms : List Meaning) → AllHave ms → AllHave (drop n ms)
dropped_have zero ms all = all
dropped_have (suc n) [] all = tt
dropped_have (suc n) (m ∷ ms) all = dropped_have n ms all.1

union_has_all : (members : List Meaning) → AllHave members → HasAll (union_meaning members)
union_has_all [] all key value is = cc
union_has_all (member ∷ []) all key value is = by (member.value key) refl is
  where
    by : (o : Option Found) → member.value key ≡ o → (o >>= λ found. Some (joined found Absent)) ≡ Some (Value value) → IsAmong value member.results
    by None at e = cc
    by (Some Absent) at e = cc
    by (Some (Value other)) at e = let same : other ≡ value = cc in all.0 key value (at ∙ ap (λ v. Some (Value v)) same)
union_has_all (member ∷ other ∷ members) all key value is = tt

pipe_has_all : (members : List Meaning) → AllHave members → HasAll (pipe_meaning members)
pipe_has_all [] all key value is = tt
pipe_has_all (member ∷ []) all key value is = by (member.value key) refl is
  where
    by : (o : Option Found) → member.value key ≡ o → (o >>= pipe_on (pipe_value [])) ≡ Some (Value value) → IsAmong value member.results
    by None at e = cc
    by (Some Absent) at e = cc
    by (Some (Value other)) at e = let same : other ≡ value = cc in all.0 key value (at ∙ ap (λ v. Some (Value v)) same)
pipe_has_all (member ∷ next ∷ members) all key value is = by (member.value key) (λ at. pipe_has_all (next ∷ members) all.1 at value) is
  where
    by : (o : Option Found) → ((at : List ℕ) → pipe_value (next ∷ members) at ≡ Some (Value value) → IsAmong value (pipe_results (next ∷ members)))
        → (o >>= pipe_on (pipe_value (next ∷ members))) ≡ Some (Value value) → IsAmong value (pipe_results (next ∷ members))
    by None behind e = cc
    by (Some Absent) behind e = cc
    by (Some (Value other)) behind e = behind other e

all_have : (nodes : List Node) → AllHave (meanings_of nodes)
all_have [] = tt
all_have (node.Text table ∷ nodes) = (keyed_has_all table, all_have nodes)
all_have (node.Cdb table ∷ nodes) = (cdb_has_all table, all_have nodes)
all_have (node.Cidr table ∷ nodes) = (nets_have_all table, all_have nodes)
all_have (node.Pcre table ∷ nodes) = (pcre.has_all table, all_have nodes)
all_have (node.Inline table ∷ nodes) = (keyed_has_all table, all_have nodes)
all_have (node.Fixed value ∷ nodes) = (static_has_all value, all_have nodes)
all_have (node.Fail ∷ nodes) = (fail_has_all, all_have nodes)
all_have (node.ListFile items ∷ nodes) = (list_has_all items, all_have nodes)
all_have (node.Union count ∷ nodes) =
    (union_has_all (firsts count (meanings_of nodes)) (firsts_have count (meanings_of nodes) (all_have nodes)), dropped_have count (meanings_of nodes) (all_have nodes))
all_have (node.Pipe count ∷ nodes) =
    (pipe_has_all (firsts count (meanings_of nodes)) (firsts_have count (meanings_of nodes) (all_have nodes)), dropped_have count (meanings_of nodes) (all_have nodes))

pub has_all : (nodes : List Node) → HasAll (meaning_of nodes)
has_all nodes = first_has (meanings_of nodes) (all_have nodes)

-- the same of opened tables
meaning_has : (nodes : Option (List Node)) → HasAll (meaning_in nodes)
meaning_has None = fail_has_all
meaning_has (Some nodes) = has_all nodes

pub known_all : (tables : List (List Node)) (id : ℕ) (values : Values) → Some (values_of tables) ≡ Some values → HasAll (values id)
known_all tables id values knows = let e : values_of tables ≡ values = cc in subst (λ (vs : Values). HasAll (vs id)) e (meaning_has (slice_get tables id))

-- what is left of nodes is what is after some of them
pub left_all : (nodes : List Node) → nodes ≡ drop (length nodes - length nodes) nodes
left_all nodes = let n : length nodes - length nodes ≡ 0 = omega arith in rw n refl

pub left_one : (first : Node) (nodes : List Node) → nodes ≡ drop (length (first ∷ nodes) - length nodes) (first ∷ nodes)
left_one first nodes = let n : suc (length nodes) - length nodes ≡ 1 = omega arith in rw n refl

pub left_more : (first : Node) (nodes left : List Node) → length left ≤ length nodes → left ≡ drop (length nodes - length left) nodes
    → left ≡ drop (length (first ∷ nodes) - length left) (first ∷ nodes)
left_more first nodes left few is =
    let n : suc (length nodes) - length left ≡ suc (length nodes - length left) = omega (arith, few) in
    is ∙ sym (ap (λ m. drop m (first ∷ nodes)) n)

drop_twice : {A : Type 0} (a b : ℕ) (xs : List A) → drop a (drop b xs) ≡ drop (b + a) xs
drop_twice a zero xs = let n : a ≡ 0 + a = omega arith in ap (λ m. drop m xs) n
drop_twice a (suc b) [] = drop_nothing a [] refl ∙ sym (drop_nothing (suc b + a) [] refl)
drop_twice a (suc b) (x ∷ xs) = let n : suc (b + a) ≡ suc b + a = omega arith in drop_twice a b xs ∙ ap (λ m. drop m (x ∷ xs)) n

pub left_next : (nodes left next : List Node) → length left ≤ length nodes → length next ≤ length left
    → left ≡ drop (length nodes - length left) nodes → next ≡ drop (length left - length next) left → next ≡ drop (length nodes - length next) nodes
left_next nodes left next few fewer is then =
    let n : length nodes - length left + (length left - length next) ≡ length nodes - length next = omega (arith, few, fewer) in
    then ∙ ap (λ xs. drop (length left - length next) xs) is ∙ drop_twice (length left - length next) (length nodes - length left) nodes ∙ ap (λ m. drop m nodes) n

pub place_is : (nodes left : List Node) (place : ℕ) → place ≤ length nodes → length left ≤ length (drop place nodes)
    → left ≡ drop (length (drop place nodes) - length left) (drop place nodes) → drop (length nodes - length left) nodes ≡ left
place_is nodes left place within few is =
    let n : place + (length (drop place nodes) - length left) ≡ length nodes - length left = omega (arith, within, few, length-drop place nodes) in
    sym (is ∙ drop_twice (length (drop place nodes) - length left) place nodes ∙ ap (λ m. drop m nodes) n)
